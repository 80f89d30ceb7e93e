use Rattle.flow.proofs.Places.{place_none, place-far, place_at}
use native.Mathlib.Omega.{arith}
use Rattle.flow.proofs.ways.place.Goals as goal

pub returns-then-count-i : goal.returns-then-count-i
returns-then-count-i c =
    (place_none _ _ c.if-count-i.true, omega arith)

pub returns-then-i-gt48 : goal.returns-then-i-gt48
returns-then-i-gt48 c =
    (place-far _ _ (omega (arith, c.if-count-i.false)) c.if-i-gt48.true, omega arith)

pub returns : goal.returns
returns c =
    (place_at _ _ (omega (arith, c.if-count-i.false)) (omega (arith, c.if-i-gt48.false)), omega arith)
