-- `typing::arguments::lesser`: by the order of the two.
use Rattle.typing.proofs.Pairs.{least_first, least-second}
use native.Mathlib.Omega.{arith}
use Rattle.typing.proofs.arguments.lesser.Goals as goal

pub returns-then-a-b : goal.returns-then-a-b
returns-then-a-b c =
    (least_first _ _ c.if-a-b.true, omega arith)

pub returns-else-a-b : goal.returns-else-a-b
returns-else-a-b c =
    (least-second _ _ c.if-a-b.false, c.if-a-b.false)
