use Rattle.store.proofs.Freed.{Searched}
use Rattle.store.proofs.heap.free.Given as goal

abbrev pub invariant-loop-i : goal.invariant-loop-i
invariant-loop-i l = Searched l.counts l.a l.b l.i
