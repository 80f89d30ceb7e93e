use Rattle.store.proofs.Vectors.{item-written}
use mir.Facts.{to_z-of_z}
use Rattle.store.proofs.heap.set_item.Goals as goal

pub returns : goal.returns
returns c =
    item-written _ _ _ _ _ _ _ c.requires.0 c.requires.1 c.requires.2 (to_z-of_z c.ranges.x)
