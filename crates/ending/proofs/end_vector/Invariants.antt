use Rattle.ending.proofs.Runs.{Delivered}
use Rattle.ending.proofs.end_vector.Given as goal

abbrev pub invariant-loop-j : goal.invariant-loop-j
invariant-loop-j l = Delivered l.initial.numbers l.numbers l.v l.j
