use Rattle.store.proofs.Frames.{assigned, assign-out}
use Rattle.store.specs.Store.{value_of}
use Rattle.store.specs.Acts.{Does}
use mathlib.Core.Path.{refl}
use Rattle.store.proofs.cells.assign_promise.Goals as goal

pub returns-then-c-lt16 : goal.returns-then-c-lt16
unfolding Does value_of
returns-then-c-lt16 c =
    (assigned c.put_place.ensures.0 c.requires.1 c.if-c-lt16.true, c.put_place.ensures.1)

pub returns-else-c-lt16 : goal.returns-else-c-lt16
unfolding Does
returns-else-c-lt16 c =
    ((assign-out _ _ _ _ _ c.requires.1 c.if-c-lt16.false, refl, refl), c.requires.0)
