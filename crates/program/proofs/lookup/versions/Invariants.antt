-- `program::lookup::versions`: the loop goes along the records, and the table holds the versions before p.
use Prim.Native.Nat.{◌-◌, ◌≤◌}
use Rattle.program.proofs.Tables.{Filled}
use lib.ListN.{length}
use mathlib.Core.Path.{◌≡◌}
use Rattle.layout.specs.Left.{left, spots}
use Prim.Native.Nat.{ℕ}
use Rattle.program.proofs.lookup.versions.Given as goal

abbrev pub invariant-loop-record : goal.invariant-loop-record
invariant-loop-record l =
    goal.iterator-loop-record.can_next l.record-iterator
    × goal.iterator-loop-record.is_finite l.record-iterator
    × ((p : ℕ) × (left l.record-iterator ≡ spots l.image p)
    × (l.end ≡ length l.image) × Filled l.image p l.table)
