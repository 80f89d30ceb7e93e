-- `typing::question9::block_reflects`: the loop goes along the records of a block, and what is left of the test is put to the instructions ahead of p.
use Prim.Native.Nat.{◌-◌, ◌≤◌}
use Rattle.layout.specs.Records.{records}
use Rattle.program.specs.Places.{version_at, past}
use Rattle.program.specs.Program.{program}
use Rattle.typing.proofs.Lines.{any_ahead}
use Rattle.rules.specs.Effects.{reflective}
use lib.ListN.{length}
use mathlib.Core.Path.{◌≡◌}
use Rattle.layout.specs.Left.{left, spots}
use Prim.Native.Nat.{ℕ}
use Rattle.typing.proofs.question9.block_reflects.Given as goal

abbrev pub invariant-loop-record : goal.invariant-loop-record
invariant-loop-record l =
    goal.iterator-loop-record.can_next l.record-iterator
    × goal.iterator-loop-record.is_finite l.record-iterator
    × ((p : ℕ) × (left l.record-iterator ≡ spots l.tabled.image.now p)
    × (any_ahead (reflective (program (records l.tabled.image.now)) (version_at l.tabled.image.now l.v)) l.tabled.image.now (past l.tabled.image.now l.b) ≡ any_ahead (reflective (program (records l.tabled.image.now)) (version_at l.tabled.image.now l.v)) l.tabled.image.now p))
