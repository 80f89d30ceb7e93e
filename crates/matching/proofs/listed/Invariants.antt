use Rattle.matching.proofs.Gathering.{Listed}
use Rattle.matching.proofs.listed.Given as goal

abbrev pub invariant-loop-i : goal.invariant-loop-i
invariant-loop-i l = Listed l.image l.at l.step l.n l.rs l.i l.p
