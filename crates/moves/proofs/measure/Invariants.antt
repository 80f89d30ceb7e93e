-- `moves::measure`: the loop goes along the records, and what is left of the length is that of the bytes of those ahead of p.
use Prim.Native.Nat.{◌-◌}
use lib.ListN.{length}
use Rattle.moves.proofs.Parts.{Measuring}
use Rattle.layout.specs.Left.{left, spots}
use Prim.Native.Nat.{ℕ}
use mathlib.Core.Path.{◌≡◌}
use Rattle.moves.proofs.measure.Given as goal

abbrev pub invariant-loop-record : goal.invariant-loop-record
invariant-loop-record l =
    goal.iterator-loop-record.can_next l.record-iterator
    × goal.iterator-loop-record.is_finite l.record-iterator
    × ((p : ℕ) × (left l.record-iterator ≡ spots l.image p)
    × Measuring l.form l.image p l.total)
