use Prim.Native.Nat.{◌-◌}
use Rattle.running.proofs.Going.{Going}
use Rattle.running.proofs.go.Given as goal

abbrev pub invariant-loop-taken : goal.invariant-loop-taken
invariant-loop-taken l =
    Going l.image l.table l.most l.steps l.initial.bytes l.initial.numbers l.bytes l.numbers l.counts l.cache (record { frame = l.frame; block = l.block; next = l.next; last = l.last; most = l.most }) (l.steps - l.taken)
