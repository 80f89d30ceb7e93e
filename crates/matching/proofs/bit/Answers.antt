use Rattle.matching.proofs.Picking.{bit-set, bit-clear}
use Rattle.matching.proofs.bit.Goals as goal

pub returns-then-t-eq1 : goal.returns-then-t-eq1
returns-then-t-eq1 c =
    bit-set _ c.if-t-eq1.true

pub returns-else-t-eq1 : goal.returns-else-t-eq1
returns-else-t-eq1 c =
    bit-clear _ c.if-t-eq1.false
