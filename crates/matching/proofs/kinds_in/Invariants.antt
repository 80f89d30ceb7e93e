use Rattle.matching.proofs.Gathering.{Decoding}
use Rattle.matching.proofs.kinds_in.Given as goal

abbrev pub invariant-loop-i : goal.invariant-loop-i
invariant-loop-i l = Decoding l.code l.n l.kinds l.i l.c
