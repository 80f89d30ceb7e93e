-- `checker::questions::count_versions`: the loop goes along the records, and what is left of the count is the versions ahead of p.
use Prim.Native.Nat.{◌+◌, ◌-◌, ◌≤◌}
use Rattle.layout.specs.Records.{records}
use Rattle.program.specs.Places.{view_at}
use Rattle.program.specs.Program.{program}
use lib.ListN.{length}
use mathlib.Core.Path.{◌≡◌}
use Rattle.layout.specs.Left.{left, spots}
use Prim.Native.Nat.{ℕ}
use Rattle.checker.proofs.questions.count_versions.Given as goal

abbrev pub invariant-loop-record : goal.invariant-loop-record
invariant-loop-record l =
    goal.iterator-loop-record.can_next l.record-iterator
    × goal.iterator-loop-record.is_finite l.record-iterator
    × ((p : ℕ) × (left l.record-iterator ≡ spots l.image p)
    × (l.count ≤ p) × (length (program (records l.image)) ≡ l.count + length (view_at l.image p).versions))
