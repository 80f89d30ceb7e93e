-- `abi::parts::watched`: the numbers of the answer, whatever the state's numbers are.
use mathlib.Core.Path.{ap, ◌∙◌}
use Rattle.abi.specs.Answers.{watched_numbers}
use Rattle.abi.proofs.parts.watched.Goals as goal

pub returns : goal.returns
returns c =
    λ m. c.watched-2.ensures ∙ ap watched_numbers (c.watched.ensures m)
