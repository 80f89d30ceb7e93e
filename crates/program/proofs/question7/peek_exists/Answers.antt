-- `program::question7::peek_exists`: one test for each register and name.
use Rattle.layout.specs.Records.{choose}
use Rattle.layout.specs.Tests.{◌and◌}
use Rattle.program.specs.Program.{instr_by}
use Rattle.program.specs.Questions.{exists}
use borrow.Author.Tests.{lt-ltb, le-ltb}
use mathlib.Core.Path.{◌∙◌}
use Rattle.program.proofs.question7.peek_exists.Goals as goal

pub returns-then-registers-field : goal.returns-then-registers-field
unfolding exists instr_by choose ◌and◌
returns-then-registers-field c =
    simp (← c.registers-registers.ensures.0, ← c.field.ensures.0, le-ltb _ _ c.if-registers-field.true)

pub returns-then-field-registers : goal.returns-then-field-registers
unfolding exists instr_by choose ◌and◌
returns-then-field-registers c =
    simp (← c.registers-registers.ensures.0, ← c.field.ensures.0, lt-ltb _ _ c.if-registers-field.false, ← c.field-2.ensures.0, lt-ltb _ _ c.if-field-registers.true, ← c.field-then-field-registers.ensures.0)

pub returns-else-field-registers : goal.returns-else-field-registers
unfolding exists instr_by choose ◌and◌
returns-else-field-registers c =
    le-ltb _ _ c.if-field-registers.false ∙ (simp (← c.registers-registers.ensures.0, ← c.field.ensures.0, lt-ltb _ _ c.if-registers-field.false, ← c.field-2.ensures.0, le-ltb _ _ c.if-field-registers.false))
