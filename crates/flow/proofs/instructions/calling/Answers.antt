-- `flow::instructions::calling`: its operands, and those of owned parameters.
use Rattle.flow.proofs.Listed.{touched}
use Rattle.rules.specs.Actions.{action_of, touch}
use Rattle.layout.specs.Records.{every, choose}
use Rattle.program.specs.Program.{instr_by}
use mathlib.Core.Path.{◌∙◌}
use Rattle.flow.proofs.instructions.calling.Goals as goal

pub returns : goal.returns
unfolding every action_of touch instr_by choose
returns c =
    c.touching.ensures ∙ touched _ _ _ _ _ _ (rw c.field.ensures.0 at c.named-reads.ensures) c.call_empties.ensures c.named.ensures
