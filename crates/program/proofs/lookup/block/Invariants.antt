-- `program::lookup::block`: the loop goes along the records of a version; what is left of the look-up is put to the blocks from p on.
use Prim.Native.Nat.{◌-◌, ◌≤◌}
use Rattle.program.proofs.Lookups.{block_from}
use Rattle.program.specs.Places.{block_place}
use lib.ListN.{length}
use mathlib.Core.Path.{◌≡◌}
use Rattle.layout.specs.Left.{left, spots}
use Prim.Native.Nat.{ℕ}
use Rattle.program.proofs.lookup.block.Given as goal

abbrev pub invariant-loop-record : goal.invariant-loop-record
invariant-loop-record l =
    goal.iterator-loop-record.can_next l.record-iterator
    × goal.iterator-loop-record.is_finite l.record-iterator
    × ((p : ℕ) × (left l.record-iterator ≡ spots l.image p)
    × (block_place l.image l.v l.b ≡ block_from l.image p l.left))
