use Rattle.layout.specs.Records.{◌!◌}
use Rattle.store.specs.Store.{CALLS}
use Rattle.frames.specs.Frames.{Tallied, at_most}
use Rattle.frames.proofs.tally.Given as goal

abbrev pub invariant-loop-i : goal.invariant-loop-i
invariant-loop-i l = Tallied l.bytes l.numbers l.counts (at_most (l.bytes ! CALLS)) l.i
