use Rattle.listing.proofs.Opening.{Emptied}
use Rattle.listing.proofs.empty.Given as goal

abbrev pub invariant-loop-m : goal.invariant-loop-m
invariant-loop-m l = Emptied l.initial.bytes l.numbers l.bytes l.counts l.k l.owned l.rs l.m l.i

abbrev pub decreases-loop-m : goal.decreases-loop-m
decreases-loop-m l = l.m
