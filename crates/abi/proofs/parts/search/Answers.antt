-- `abi::parts::search`: the numbers of the search, whatever the state's numbers are.
use mathlib.Core.Path.{ap, ◌∙◌}
use Rattle.abi.specs.Answers.{search_numbers}
use Rattle.abi.proofs.parts.search.Goals as goal

pub returns : goal.returns
returns c =
    λ n. c.searched.ensures ∙ ap search_numbers (c.search.ensures n)
