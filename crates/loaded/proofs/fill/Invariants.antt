-- `loaded::fill`: the loop goes along the records, and what is left makes the table of all.
use Prim.Native.Nat.{◌-◌}
use lib.ListN.{length}
use Rattle.loaded.proofs.Entries.{Filling}
use Rattle.layout.specs.Left.{left, spots}
use Prim.Native.Nat.{ℕ}
use mathlib.Core.Path.{◌≡◌}
use Rattle.loaded.proofs.fill.Given as goal

abbrev pub invariant-loop-record : goal.invariant-loop-record
invariant-loop-record l =
    goal.iterator-loop-record.can_next l.record-iterator
    × goal.iterator-loop-record.is_finite l.record-iterator
    × ((p : ℕ) × (left l.record-iterator ≡ spots l.image p)
    × Filling l.image l.initial.table l.table l.at p)
