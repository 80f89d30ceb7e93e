-- `begin::put_items`: the words left go behind those that are there.
use Prim.Native.Nat.{◌≤◌}
use Rattle.begin.proofs.Stores.{Copied}
use Rattle.begin.proofs.put_items.Given as goal

abbrev pub invariant-loop-j : goal.invariant-loop-j
invariant-loop-j l = (l.j ≤ l.m) × Copied l.words l.p l.m l.c l.initial.numbers l.numbers l.j
