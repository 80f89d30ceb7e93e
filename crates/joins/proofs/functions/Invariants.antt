-- `joins::functions`: the loop goes along the records, and the last VERSION so far says the count.
use Rattle.joins.proofs.Parts.{Counting}
use Prim.Native.Nat.{◌-◌}
use lib.ListN.{length}
use Rattle.layout.specs.Left.{left, spots}
use Prim.Native.Nat.{ℕ}
use mathlib.Core.Path.{◌≡◌}
use Rattle.joins.proofs.functions.Given as goal

abbrev pub invariant-loop-record : goal.invariant-loop-record
invariant-loop-record l =
    goal.iterator-loop-record.can_next l.record-iterator
    × goal.iterator-loop-record.is_finite l.record-iterator
    × ((p : ℕ) × (left l.record-iterator ≡ spots l.image p)
    × Counting l.image p l.count)
