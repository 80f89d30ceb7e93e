use mir.Facts.{to_z-of_z}
use Rattle.store.proofs.Frames.{assigned, assign-out}
use Rattle.store.specs.Acts.{Does}
use mathlib.Core.Path.{refl}
use Rattle.store.proofs.cells.assign_integer.Goals as goal

pub returns-then-c-lt16 : goal.returns-then-c-lt16
unfolding Does
returns-then-c-lt16 c =
    let g = rw (to_z-of_z c.ranges.z) at c.put_integer.ensures in
    (assigned g.0 c.requires.1 c.if-c-lt16.true, g.1)

pub returns-else-c-lt16 : goal.returns-else-c-lt16
unfolding Does
returns-else-c-lt16 c =
    ((assign-out _ _ _ _ _ c.requires.1 c.if-c-lt16.false, refl, refl), c.requires.0)
