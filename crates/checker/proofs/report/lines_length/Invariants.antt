-- `checker::report::lines_length`: the loop goes along the records, and what is left of the length is that of the lines ahead of p.
use Prim.Native.Nat.{◌+◌, ◌*◌, ◌-◌, ◌≤◌}
use Rattle.checker.proofs.Texts.{lines_ahead}
use Rattle.checker.specs.Reports.{version_lines}
use Rattle.layout.specs.Records.{records}
use Rattle.program.specs.Program.{program}
use lib.ListN.{length}
use mathlib.Core.Path.{◌≡◌}
use Rattle.layout.specs.Left.{left, spots}
use Prim.Native.Nat.{ℕ}
use Rattle.checker.proofs.report.lines_length.Given as goal

abbrev pub invariant-loop-record : goal.invariant-loop-record
invariant-loop-record l =
    goal.iterator-loop-record.can_next l.record-iterator
    × goal.iterator-loop-record.is_finite l.record-iterator
    × ((p : ℕ) × (left l.record-iterator ≡ spots l.image p)
    × (p ≤ length l.image) × (l.total ≤ 128 * p) × (length (version_lines (program (records l.image)) (program (records l.image))) ≡ l.total + length (lines_ahead (program (records l.image)) l.image p)))
