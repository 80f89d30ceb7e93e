-- `program::question7::vec_exists`: one test for each register and name.
use Rattle.layout.proofs.Bools.{and-on, and-off, is_below, is-above}
use Rattle.layout.specs.Records.{choose}
use Rattle.program.proofs.Existence.{all_same}
use Rattle.program.specs.Program.{instr_by}
use Rattle.program.specs.Questions.{exists}
use mathlib.Core.Path.{sym, ◌∙◌}
use borrow.Author.Tests.{le-ltb}
use Rattle.program.proofs.question7.vec_exists.Goals as goal

pub returns-then-field-registers : goal.returns-then-field-registers
unfolding exists instr_by choose
returns-then-field-registers c =
    c.all_exist.ensures ∙ all_same _ 2 1 c.registers-registers.ensures.0 c.field-then-field-registers.ensures.0 ∙ sym (and-on _ (is_below c.field.ensures.0 c.registers-registers.ensures.0 c.if-field-registers.true))

pub returns-else-field-registers : goal.returns-else-field-registers
unfolding exists instr_by choose
returns-else-field-registers c =
    le-ltb _ _ c.if-field-registers.false ∙ (sym (and-off _ (is-above c.field.ensures.0 c.registers-registers.ensures.0 c.if-field-registers.false)))
