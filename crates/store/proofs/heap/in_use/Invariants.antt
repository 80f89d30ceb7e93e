use Rattle.store.proofs.InUse.{Upto}
use Rattle.store.proofs.heap.in_use.Given as goal

abbrev pub invariant-loop-v : goal.invariant-loop-v
invariant-loop-v l = Upto l.counts l.v l.n
