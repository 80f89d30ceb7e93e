use mir.Facts.{to_z-of_z}
use Rattle.store.proofs.Frames.{stored, store_out}
use Rattle.store.specs.Acts.{Does}
use mathlib.Core.Path.{refl}
use Rattle.store.proofs.cells.store_integer.Goals as goal

pub returns-then-c-lt8 : goal.returns-then-c-lt8
unfolding Does
returns-then-c-lt8 c =
    let g = rw (to_z-of_z c.ranges.z) at c.put_integer.ensures in
    (stored g.0 c.requires.1 _ refl c.if-c-lt8.true, g.1)

pub returns-else-c-lt8 : goal.returns-else-c-lt8
unfolding Does
returns-else-c-lt8 c =
    ((store_out _ _ _ _ _ c.requires.1 c.if-c-lt8.false, refl, refl), c.requires.0)
