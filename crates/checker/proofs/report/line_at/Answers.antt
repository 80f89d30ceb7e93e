-- `checker::report::line_at`: the numbers of the version and its counts.
use Rattle.checker.specs.Reports.{line_of, version_line}
use Rattle.program.specs.Places.{version_at}
use Rattle.checker.proofs.report.line_at.Goals as goal

pub returns : goal.returns
unfolding line_of version_line version_at
returns c =
    simp (c.field.ensures.0, c.field-2.ensures.0, c.counts_at.ensures)
