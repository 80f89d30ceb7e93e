-- `abi::parts::stand`: the numbers of the place, whatever the state's numbers are.
use mathlib.Core.Path.{ap, ◌∙◌}
use Rattle.abi.specs.Answers.{where_numbers}
use Rattle.abi.proofs.parts.stand.Goals as goal

pub returns : goal.returns
returns c =
    λ n. c.place.ensures ∙ ap where_numbers (c.stand.ensures n)
