-- `abi::fir_check_in`: the numbers of the verdict in the form.
use mathlib.Core.Path.{ap, ◌∙◌}
use Rattle.layout.specs.declared.Form.{Form}
use Rattle.checker.specs.Verdicts.{verdict_in}
use Rattle.abi.specs.Answers.{verdict_numbers}
use Rattle.abi.proofs.fir_check_in.Goals as goal

pub returns : goal.returns
returns c =
    c.verdict.ensures ∙ ap verdict_numbers (c.verdict_in.ensures ∙ ap (λ (f : Form). verdict_in f c.args.image.now) c.form.ensures)
