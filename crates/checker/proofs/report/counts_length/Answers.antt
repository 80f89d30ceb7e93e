-- `checker::report::counts_length`: a space and the digits of each.
use Rattle.checker.proofs.Texts.{counts-known, counts-unknown}
use mathlib.Core.Path.{sym}
use native.Mathlib.Omega.{arith}
use Rattle.checker.proofs.report.counts_length.Goals as goal

pub returns-in-Some : goal.returns-in-Some
returns-in-Some c =
    let k = counts-known c.args.counts c.in-Some.is in
    (omega (arith, k, c.digits_of.ensures.0, c.digits_of-in-Some.ensures.0, c.digits_of-in-Some-2.ensures.0, c.digits_of-in-Some-3.ensures.0), omega (arith, c.digits_of.ensures.1, c.digits_of-in-Some.ensures.1, c.digits_of-in-Some-2.ensures.1, c.digits_of-in-Some-3.ensures.1))

pub returns-in-None : goal.returns-in-None
returns-in-None c =
    (sym (counts-unknown _ c.in-None.is), omega arith)
