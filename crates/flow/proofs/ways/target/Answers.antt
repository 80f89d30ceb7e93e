use Rattle.flow.proofs.Places.{target_none, target_past, target-far, target_at}
use native.Mathlib.Omega.{arith}
use Rattle.flow.proofs.ways.target.Goals as goal

pub returns-then-skip-eq0 : goal.returns-then-skip-eq0
returns-then-skip-eq0 c =
    (target_none _ _ _ c.if-skip-eq0.true, omega arith)

pub returns-then-count-skip : goal.returns-then-count-skip
returns-then-count-skip c =
    (target_past _ _ _ c.if-skip-eq0.false (omega arith), omega arith)

pub returns-then-count-skip-2 : goal.returns-then-count-skip-2
returns-then-count-skip-2 c =
    (target_past _ _ _ c.if-skip-eq0.false (omega arith), omega arith)

pub returns-then-i-skip-gt48 : goal.returns-then-i-skip-gt48
returns-then-i-skip-gt48 c =
    (target-far _ _ _ c.if-skip-eq0.false (omega arith) (omega arith), omega arith)

pub returns : goal.returns
returns c =
    (target_at _ _ _ c.if-skip-eq0.false (omega arith) (omega arith), omega arith)
