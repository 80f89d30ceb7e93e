-- `checker::report::line_length`: the lengths of its pieces.
use Rattle.checker.proofs.Texts.{line-length}
use Rattle.checker.specs.Reports.{line_of, counts_of}
use native.Mathlib.Omega.{arith}
use Rattle.checker.proofs.report.line_length.Goals as goal

pub returns : goal.returns
unfolding line_of
returns c =
    let l = c.args.line in
    (omega (arith, line-length l.function l.version (counts_of l.counts), c.digits_of.ensures.0, c.digits_of-2.ensures.0, c.counts_length.ensures.0), omega (arith, c.digits_of.ensures.1, c.digits_of-2.ensures.1, c.counts_length.ensures.1))
