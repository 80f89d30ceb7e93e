-- `abi::fir_report`: by what is said of the text.
use Rattle.abi.proofs.Texts.{length_in, written_is}
use mathlib.Core.Path.{sym, ap, ◌∙◌}
use Rattle.abi.proofs.fir_report.Goals as goal

pub returns-in-Some : goal.returns-in-Some
unfolding length_in
returns-in-Some c =
    (ap length_in (sym c.in-Some.is ∙ c.report.ensures.says) ∙ written_is _ _, c.report.ensures.writes)

pub returns-in-None : goal.returns-in-None
unfolding length_in
returns-in-None c =
    (ap length_in (sym c.in-None.is ∙ c.report.ensures.says) ∙ written_is _ _, c.report.ensures.writes)
