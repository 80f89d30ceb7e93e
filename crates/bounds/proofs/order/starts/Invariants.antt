-- `bounds::order::starts`: place by place.
use Rattle.bounds.specs.Counts.{Begins}
use Rattle.bounds.proofs.order.starts.Given as goal

abbrev pub invariant-loop-k : goal.invariant-loop-k
invariant-loop-k l = Begins l.tabled.image.now l.places l.k
