-- `mends::standing`: the loop goes along the records as the question did that refused, up to the record that fails.
use Prim.Native.Nat.{ℕ}
use mathlib.Core.Path.{◌≡◌}
use Rattle.layout.specs.Left.{left, spots}
use Rattle.mends.proofs.Likewise.{Walking}
use Rattle.mends.proofs.standing.Given as goal

abbrev pub invariant-loop-record : goal.invariant-loop-record
invariant-loop-record l =
    goal.iterator-loop-record.can_next l.record-iterator
    × goal.iterator-loop-record.is_finite l.record-iterator
    × ((p : ℕ) × (left l.record-iterator ≡ spots l.image p) × Walking l.image l.why.question l.why.at p l.here)
