use Prim.Native.Nat.{◌-◌}
use Rattle.frames.proofs.Dropping.{Fewer}
use Rattle.frames.proofs.drop_frame.Given as goal

abbrev pub invariant-loop-counts : goal.invariant-loop-counts
invariant-loop-counts l = Fewer l.bytes l.numbers l.initial.counts l.counts l.k l.e

abbrev pub decreases-loop-counts : goal.decreases-loop-counts
decreases-loop-counts l = 24 - l.e
