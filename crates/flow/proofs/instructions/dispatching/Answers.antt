-- `flow::instructions::dispatching`: its operands are every second field, and those of owned types.
use Rattle.flow.proofs.Listed.{touched}
use Rattle.rules.specs.Actions.{action_of, touch}
use Rattle.layout.specs.Records.{every, choose}
use Rattle.program.proofs.Forms.{argument-registers}
use Rattle.program.specs.Program.{instr_by}
use mathlib.Core.Path.{◌∙◌}
use Rattle.flow.proofs.instructions.dispatching.Goals as goal

pub returns : goal.returns
unfolding every action_of touch instr_by choose
returns c =
    c.touching.ensures ∙ touched _ _ _ _ _ _ (rw c.field.ensures.0 at c.named-reads.ensures) c.paired_owned.ensures c.named.ensures ∙ rw argument-registers
