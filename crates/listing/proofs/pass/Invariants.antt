use Rattle.listing.proofs.Opening.{Passed}
use Rattle.listing.proofs.pass.Given as goal

abbrev pub invariant-loop-i : goal.invariant-loop-i
invariant-loop-i l = Passed l.initial.bytes l.initial.numbers l.bytes l.numbers l.counts l.k l.to l.rs l.i
