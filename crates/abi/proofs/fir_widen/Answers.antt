-- `abi::fir_widen`: the numbers of the move.
use mathlib.Core.Path.{ap, ◌∙◌}
use Rattle.abi.specs.Answers.{verdict_numbers}
use Rattle.abi.proofs.fir_widen.Goals as goal

pub returns : goal.returns
returns c =
    (c.verdict.ensures ∙ ap verdict_numbers c.widen.ensures.0, c.widen.ensures.1)
