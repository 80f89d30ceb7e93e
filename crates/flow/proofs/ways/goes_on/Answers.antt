use Rattle.flow.proofs.Places.{goes_none, goes-past, goes_at}
use native.Mathlib.Omega.{arith}
use Rattle.flow.specs.Masks.{flowed}
use Rattle.flow.proofs.ways.goes_on.Goals as goal

pub returns-then-skip-eq0 : goal.returns-then-skip-eq0
returns-then-skip-eq0 c =
    goes_none _ _ _ _ c.if-skip-eq0.true

pub returns-then-count-skip : goal.returns-then-count-skip
unfolding flowed
returns-then-count-skip c =
    goes-past _ _ _ _ c.if-skip-eq0.false (omega arith)

pub returns-then-count-skip-2 : goal.returns-then-count-skip-2
unfolding flowed
returns-then-count-skip-2 c =
    goes-past _ _ _ _ c.if-skip-eq0.false (omega arith)

pub returns : goal.returns
returns c =
    goes_at _ _ _ _ c.if-skip-eq0.false (omega arith)
