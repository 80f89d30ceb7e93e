-- `abi::fir_check`: the numbers of the verdict.
use Rattle.abi.specs.Answers.{verdict_numbers}
use mathlib.Core.Path.{ap, ◌∙◌}
use Rattle.abi.proofs.fir_check.Goals as goal

pub returns : goal.returns
returns c =
    c.verdict-2.ensures ∙ ap verdict_numbers c.verdict.ensures
