use Rattle.store.proofs.Promises.{cache-made}
use mir.Facts.{to_z-of_z}
use Rattle.store.proofs.heap.set_cache.Goals as goal

pub returns : goal.returns
returns c =
    cache-made _ _ _ _ c.requires.0 c.requires.1 _ _ (to_z-of_z c.ranges.z)
