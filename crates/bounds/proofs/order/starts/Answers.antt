use Rattle.bounds.proofs.Writing.{entry-is, begins-none, begins-more}
use Rattle.bounds.proofs.Filling.{begins-all}
use Prim.Native.Nat.{ℕ}
use lib.ListN.{length-replicate}
use native.Mathlib.Omega.{arith}
use Rattle.bounds.proofs.order.starts.Goals as goal

pub loop-k-init : goal.loop-k-init
loop-k-init c =
    begins-none _ _ (length-replicate {A = ℕ} 128 0)

pub bounds-places-k : goal.bounds-places-k
bounds-places-k c =
    omega (arith, c.loop-k-test.true, c.loop-k.invariant.placed)

pub loop-k-preserved : goal.loop-k-preserved
loop-k-preserved c =
    begins-more _ _ _ c.loop-k-test.true c.loop-k.invariant (entry-is c.args.tabled.listed _) c.start.ensures

pub returns : goal.returns
returns c =
    begins-all _ _ _ c.loop-k.invariant c.loop-k-test.false
