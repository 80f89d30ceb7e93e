-- `watches::items`: after j turns the first j items stand over the zeros.
use Prim.Native.Nat.{◌≤◌}
use mathlib.Core.Path.{◌≡◌}
use lib.ListN.{take}
use Rattle.machine.specs.States.{items_of, over}
use Rattle.machine.specs.Watches.{zeros}
use Rattle.store.specs.Store.{vector_in}
use Rattle.watches.proofs.items.Given as goal

abbrev pub invariant-loop-j : goal.invariant-loop-j
invariant-loop-j l = (l.j ≤ l.n) × (l.items ≡ over (take l.j (items_of (vector_in l.bytes l.numbers l.v))) zeros)
