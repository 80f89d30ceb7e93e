use Rattle.store.proofs.Frames.{stored, store_out}
use Rattle.store.specs.Acts.{Does}
use mathlib.Core.Path.{refl}
use Rattle.store.proofs.cells.store_cell.Goals as goal

pub returns-then-c-lt8 : goal.returns-then-c-lt8
unfolding Does
returns-then-c-lt8 c =
    (stored c.put_copy.ensures.0 c.requires.1 _ refl c.if-c-lt8.true, c.put_copy.ensures.1)

pub returns-else-c-lt8 : goal.returns-else-c-lt8
unfolding Does
returns-else-c-lt8 c =
    ((store_out _ _ _ _ _ c.requires.1 c.if-c-lt8.false, refl, refl), c.requires.0)
