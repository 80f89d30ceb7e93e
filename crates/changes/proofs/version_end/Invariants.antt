-- `changes::version_end`: the loop goes along the records behind the VERSION; the next version from `p` on ends this one.
use Prim.Native.Nat.{◌≤◌}
use Rattle.changes.specs.Parts.{end_from, end_at}
use lib.ListN.{length}
use mathlib.Core.Path.{◌≡◌}
use Rattle.layout.specs.Left.{left, spots}
use Prim.Native.Nat.{ℕ}
use Rattle.changes.proofs.version_end.Given as goal

abbrev pub invariant-loop-record : goal.invariant-loop-record
invariant-loop-record l =
    goal.iterator-loop-record.can_next l.record-iterator
    × goal.iterator-loop-record.is_finite l.record-iterator
    × ((p : ℕ) × (left l.record-iterator ≡ spots l.image p)
    × (l.v ≤ p) × (p ≤ length l.image) × (end_at l.image l.v ≡ end_from l.image p))
