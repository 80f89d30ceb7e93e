-- `begin::fill`: what the arguments left make of the arrays is what all of them make.
use Prim.Native.Nat.{◌≤◌, ◌-◌}
use lib.ListN.{length}
use Rattle.begin.proofs.Filling.{Leaves}
use Rattle.begin.proofs.fill.Given as goal

abbrev pub invariant-loop-p : goal.invariant-loop-p
invariant-loop-p l = (l.c ≤ l.i) × (l.i ≤ l.p) × (l.p ≤ length l.words) × Leaves l.words l.p l.i l.c l.bytes l.numbers l.initial.bytes l.initial.numbers

abbrev pub decreases-loop-p : goal.decreases-loop-p
decreases-loop-p l = length l.words - l.p
