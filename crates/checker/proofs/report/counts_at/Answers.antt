-- `checker::report::counts_at`: by the action of the body.
use Rattle.checker.proofs.Texts.{counts-allowed, counts-refused}
use Rattle.checker.specs.Reports.{counts_of}
use mathlib.Core.Path.{sym}
use Rattle.checker.proofs.report.counts_at.Goals as goal

pub returns-in_err-a : goal.returns-in_err-a
unfolding counts_of
returns-in_err-a c =
    rw c.from_residual.ensures (sym (counts-refused _ _ _ c.action.ensures c.in_err-a.was))

pub returns : goal.returns
unfolding counts_of
returns c =
    simp (c.size.ensures, c.size-2.ensures, c.size-3.ensures, c.size-4.ensures) (sym (counts-allowed _ _ _ _ c.action.ensures c.in_ok-a.was))
