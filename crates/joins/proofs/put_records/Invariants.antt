-- `joins::put_records`: the loop goes along the records, and what is still to be put is the bytes of those ahead of p.
use lib.ListN.{length}
use Prim.Native.Nat.{◌-◌}
use Rattle.joins.proofs.Parts.{Raising}
use Rattle.layout.specs.Left.{left, spots}
use Prim.Native.Nat.{ℕ}
use mathlib.Core.Path.{◌≡◌}
use Rattle.joins.proofs.put_records.Given as goal

abbrev pub invariant-loop-record : goal.invariant-loop-record
invariant-loop-record l =
    goal.iterator-loop-record.can_next l.record-iterator
    × goal.iterator-loop-record.is_finite l.record-iterator
    × ((p : ℕ) × (left l.record-iterator ≡ spots l.image p)
    × Raising l.k l.image l.initial.out l.out l.from p l.at)
