-- `abi::fir_report_in`: by what is said of the text.
use mathlib.Core.Path.{sym, ap, ◌∙◌}
use Rattle.abi.proofs.Texts.{length_in, written_is}
use Rattle.abi.proofs.fir_report_in.Goals as goal

pub returns-in-Some : goal.returns-in-Some
unfolding length_in
returns-in-Some c =
    rw (sym c.form.ensures) (ap length_in (sym c.in-Some.is ∙ c.report_in.ensures.says) ∙ written_is _ _, c.report_in.ensures.writes)

pub returns-in-None : goal.returns-in-None
unfolding length_in
returns-in-None c =
    rw (sym c.form.ensures) (ap length_in (sym c.in-None.is ∙ c.report_in.ensures.says) ∙ written_is _ _, c.report_in.ensures.writes)
