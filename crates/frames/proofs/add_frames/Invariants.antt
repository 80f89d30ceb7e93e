use Rattle.frames.specs.Frames.{Tallied}
use Rattle.frames.proofs.add_frames.Given as goal

abbrev pub invariant-loop-k : goal.invariant-loop-k
invariant-loop-k l = Tallied l.bytes l.numbers l.counts l.k 0
