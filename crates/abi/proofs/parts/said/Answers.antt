-- `abi::parts::said`: by the pause.
use mathlib.Core.Path.{ap, sym, ◌∙◌}
use Rattle.running.specs.Budgets.{said_of}
use Rattle.abi.specs.Answers.{end_in, said_numbers}
use Rattle.abi.proofs.Pausing.{said-ended}
use Rattle.abi.proofs.parts.said.Goals as goal

pub returns-in-Steps : goal.returns-in-Steps
unfolding said_of said_numbers
returns-in-Steps c =
    rw c.in-Steps.is c.plain.ensures

pub returns-in-Ended : goal.returns-in-Ended
unfolding end_in
returns-in-Ended c =
    rw c.in-Ended.is (c.ended.ensures ∙ ap said_numbers (sym (said-ended _)))

pub returns-in-Stuck : goal.returns-in-Stuck
unfolding said_of said_numbers
returns-in-Stuck c =
    rw c.in-Stuck.is c.plain-in-Stuck.ensures
