use Rattle.matching.proofs.Gathering.{Coding}
use Rattle.matching.proofs.code_of.Given as goal

abbrev pub invariant-loop-i : goal.invariant-loop-i
invariant-loop-i l = Coding l.image l.table l.bytes l.k l.rs l.n l.i l.code
