use Rattle.store.proofs.Vectors.{Copied}
use Rattle.store.proofs.heap.copy_vector.Given as goal

abbrev pub invariant-loop-j : goal.invariant-loop-j
invariant-loop-j l = Copied l.initial.numbers l.numbers l.v l.w l.j
