use Rattle.frames.specs.Frames.{Added}
use Rattle.frames.proofs.add_frame.Given as goal

abbrev pub invariant-loop-e : goal.invariant-loop-e
invariant-loop-e l = Added l.bytes l.numbers l.initial.counts l.counts l.k l.e
