-- `abi::fir_narrow`: the numbers of the move.
use mathlib.Core.Path.{ap, ◌∙◌}
use Rattle.abi.specs.Answers.{verdict_numbers}
use Rattle.abi.proofs.fir_narrow.Goals as goal

pub returns : goal.returns
returns c =
    (c.verdict.ensures ∙ ap verdict_numbers c.narrow.ensures.0, c.narrow.ensures.1)
