use Rattle.store.proofs.InUse.{none_left, some_left}
use native.Mathlib.Omega.{arith}
use Rattle.store.proofs.heap.free_below.Goals as goal

pub returns-then-most-in_use : goal.returns-then-most-in_use
returns-then-most-in_use c = let e = c.in_use.ensures in let t = c.if-most-in_use.true in none_left _ _ (omega (arith, e, t))

pub returns : goal.returns
returns c = let e = c.in_use.ensures in let t = c.if-most-in_use.false in some_left _ _ _ (omega (arith, e, t)) c.free.ensures
