-- `abi::parts::change`: the numbers of the change, whatever the state's numbers are.
use mathlib.Core.Path.{ap, ◌∙◌}
use Rattle.abi.specs.Answers.{grant_numbers}
use Rattle.abi.proofs.parts.change.Goals as goal

pub returns : goal.returns
returns c =
    λ n. c.grant.ensures ∙ ap grant_numbers (c.change.ensures n)
