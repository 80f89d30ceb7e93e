-- `program::lookup::search_function`: the loop goes along the records until a VERSION has the function.
use Prim.Native.Nat.{◌-◌, ◌≤◌}
use Rattle.layout.specs.Records.{records}
use Rattle.program.specs.Places.{view_at}
use Rattle.program.specs.Program.{program, has_function}
use lib.ListN.{length}
use mathlib.Core.Path.{◌≡◌}
use Rattle.layout.specs.Left.{left, spots}
use Prim.Native.Nat.{ℕ}
use Rattle.program.proofs.lookup.search_function.Given as goal

abbrev pub invariant-loop-record : goal.invariant-loop-record
invariant-loop-record l =
    goal.iterator-loop-record.can_next l.record-iterator
    × goal.iterator-loop-record.is_finite l.record-iterator
    × ((p : ℕ) × (left l.record-iterator ≡ spots l.image p)
    × (has_function l.f (program (records l.image)) ≡ has_function l.f (view_at l.image p).versions))
