-- `abi::answers::place`: by where the state stands.
use Rattle.std.specs.Prelude.{Some}
use Rattle.abi.specs.Answers.{where_numbers}
use mathlib.Core.Path.{ap, ◌∙◌}
use Rattle.abi.proofs.answers.place.Goals as goal

pub returns-in_default : goal.returns-in_default
unfolding where_numbers
returns-in_default c =
    rw c.in_default.is

pub returns-in-Instruction : goal.returns-in-Instruction
unfolding where_numbers
returns-in-Instruction c =
    rw (c.in-Some.is ∙ ap Some c.in-Instruction.is)

pub returns-in-BlockEnd : goal.returns-in-BlockEnd
unfolding where_numbers
returns-in-BlockEnd c =
    rw (c.in-Some.is ∙ ap Some c.in-BlockEnd.is)
