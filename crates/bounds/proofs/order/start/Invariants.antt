-- `bounds::order::start`: the loop passes what stands in no block.
use Rattle.program.specs.Places.{view_at, version_at}
use Prim.Native.Nat.{◌-◌, ◌≤◌}
use lib.ListN.{length}
use mathlib.Core.Path.{◌≡◌}
use Rattle.bounds.proofs.order.start.Given as goal

abbrev pub invariant-loop-p : goal.invariant-loop-p
invariant-loop-p l = (l.p ≤ length l.image) × ((view_at l.image l.p).blocks ≡ (version_at l.image l.v).blocks)

abbrev pub decreases-loop-p : goal.decreases-loop-p
decreases-loop-p l = length l.image - l.p
