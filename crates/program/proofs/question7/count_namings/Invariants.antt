-- `program::question7::count_namings`: the loop goes along the records of a version, and what is left of the count is that of what is seen from p.
use Prim.Native.Nat.{◌+◌, ◌-◌, ◌≤◌}
use Rattle.program.proofs.Existence.{namings_seen}
use Rattle.program.specs.Places.{version_at, view_at}
use Rattle.program.specs.Questions.{namings}
use lib.ListN.{length}
use mathlib.Core.Path.{◌≡◌}
use Rattle.layout.specs.Left.{left, spots}
use Prim.Native.Nat.{ℕ}
use Rattle.program.proofs.question7.count_namings.Given as goal

abbrev pub invariant-loop-record : goal.invariant-loop-record
invariant-loop-record l =
    goal.iterator-loop-record.can_next l.record-iterator
    × goal.iterator-loop-record.is_finite l.record-iterator
    × ((p : ℕ) × (left l.record-iterator ≡ spots l.image p)
    × (l.count ≤ p) × (namings l.b (version_at l.image l.v).blocks ≡ l.count + namings_seen l.b l.begun (view_at l.image p)))
