use Rattle.listing.proofs.Gathering.{Filled}
use Rattle.listing.proofs.fill.Given as goal

abbrev pub invariant-loop-j : goal.invariant-loop-j
invariant-loop-j l = Filled l.initial.numbers l.numbers l.k l.v l.rs l.j
