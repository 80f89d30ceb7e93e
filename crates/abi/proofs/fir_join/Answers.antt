-- `abi::fir_join`: the numbers of the join.
use mathlib.Core.Path.{ap, ◌∙◌}
use Rattle.abi.specs.Answers.{joined_numbers}
use Rattle.abi.proofs.fir_join.Goals as goal

pub returns : goal.returns
returns c =
    (c.joined.ensures ∙ ap joined_numbers c.join.ensures.0, c.join.ensures.1)
