use Rattle.listing.proofs.Gathering.{Gathered}
use Rattle.listing.proofs.all_integers.Given as goal

abbrev pub invariant-loop-r : goal.invariant-loop-r
invariant-loop-r l = Gathered l.bytes l.numbers l.k l.rs l.r-index
