-- `checker::report::report_in`: by the verdict.
use Rattle.checker.proofs.Asks.{accepted-short}
use Rattle.checker.proofs.Puts.{told-accepted, told-refused}
use mathlib.Core.Path.{sym, ◌∙◌}
use Rattle.checker.proofs.report.report_in.Goals as goal

pub report_accepted-requires : goal.report_accepted-requires
report_accepted-requires c =
    accepted-short _ _ _ (sym c.verdict_in.ensures ∙ c.in-Ok.is)

pub returns-in-Ok : goal.returns-in-Ok
returns-in-Ok c =
    told-accepted _ _ _ (sym c.verdict_in.ensures ∙ c.in-Ok.is) c.report_accepted.ensures

pub returns-in-Err : goal.returns-in-Err
returns-in-Err c =
    told-refused _ _ _ _ (sym c.verdict_in.ensures ∙ c.in-Err.is) c.report_refused.ensures
