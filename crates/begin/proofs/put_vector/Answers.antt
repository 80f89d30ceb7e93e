-- `begin::put_vector`: where there is such a register.
use Rattle.begin.proofs.Stores.{vector-put, vector-out}
use Rattle.begin.proofs.put_vector.Goals as goal

pub returns-then-i-lt-REGISTERS : goal.returns-then-i-lt-REGISTERS
returns-then-i-lt-REGISTERS c =
    vector-put _ _ _ c.if-i-lt-REGISTERS.true

pub returns-else-i-lt-REGISTERS : goal.returns-else-i-lt-REGISTERS
returns-else-i-lt-REGISTERS c =
    vector-out _ _ _ c.if-i-lt-REGISTERS.false
