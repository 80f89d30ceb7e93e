use native.Mathlib.Omega.{arith}
use Rattle.searches.proofs.most.Goals as goal

pub returns-then-n-lt-OPERANDS : goal.returns-then-n-lt-OPERANDS
returns-then-n-lt-OPERANDS c =
    (omega (arith, c.if-n-lt-OPERANDS.true), omega (arith, c.if-n-lt-OPERANDS.true))

pub returns-else-n-lt-OPERANDS : goal.returns-else-n-lt-OPERANDS
returns-else-n-lt-OPERANDS c =
    (omega (arith, c.if-n-lt-OPERANDS.false), omega arith)
