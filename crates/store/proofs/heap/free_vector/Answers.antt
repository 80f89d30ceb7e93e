use Rattle.store.proofs.InUse.{all_left}
use Rattle.store.proofs.heap.free_vector.Goals as goal

pub returns : goal.returns
returns c = all_left _ _ _ c.if-most-lt-VECTORS.false c.free.ensures
