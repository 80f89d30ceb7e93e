-- `flow::instructions::promising`: what the block does, promised, and the first field is assigned.
use Rattle.flow.proofs.Listed.{promised-at}
use Rattle.rules.specs.Actions.{action_of, touch}
use Rattle.layout.specs.Records.{every, choose}
use Rattle.program.specs.Program.{instr_by}
use mathlib.Core.Path.{◌∙◌}
use Rattle.flow.proofs.instructions.promising.Goals as goal

pub returns : goal.returns
unfolding every action_of touch instr_by choose
returns c =
    c.promised.ensures ∙ promised-at _ _ _ c.named.ensures
