-- `abi::parts::deliver`: only a run that is DONE with a vector has items.
use Rattle.abi.proofs.Delivering.{vector-delivered, none-delivered}
use Rattle.abi.proofs.parts.deliver.Goals as goal

pub returns-then-bytes-eq-VECTOR : goal.returns-then-bytes-eq-VECTOR
returns-then-bytes-eq-VECTOR c =
    vector-delivered _ _ _ c.if-bytes-eq-VECTOR.true (rw c.wide.ensures.0 at c.put_items.ensures)

pub returns-else-bytes-eq-VECTOR : goal.returns-else-bytes-eq-VECTOR
returns-else-bytes-eq-VECTOR c =
    none-delivered _ _ _ c.if-bytes-eq-VECTOR.false
