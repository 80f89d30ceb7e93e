-- `program::question7::dispatch_exists`: the registers of its pairs are every second field.
use Rattle.layout.proofs.Bools.{and-on, and-off, is_below, is-above}
use Rattle.layout.specs.Records.{choose}
use Rattle.program.proofs.Existence.{all_same, pairs-exist}
use Rattle.program.specs.Program.{instr_by}
use Rattle.program.specs.Questions.{exists}
use mathlib.Core.Path.{sym, ◌∙◌}
use Rattle.program.proofs.question7.dispatch_exists.Goals as goal

pub returns-then-registers-field : goal.returns-then-registers-field
unfolding exists instr_by choose
returns-then-registers-field c =
    sym (and-off _ (is-above c.field.ensures.0 c.registers-registers.ensures.0 c.if-registers-field.true))

pub returns-then-all_exist : goal.returns-then-all_exist
unfolding exists instr_by choose
returns-then-all_exist c =
    c.has_function.ensures
    ∙ rw c.field-then-all_exist.ensures.0
    (sym (and-on _ (is_below c.field.ensures.0 c.registers-registers.ensures.0 c.if-registers-field.false)
    ∙ and-on _ (pairs-exist _ _ 5 _ ∙ sym (all_same _ 6 2 c.registers-registers.ensures.0 c.field-2.ensures.0) ∙ sym c.all_exist.ensures ∙ c.if-all_exist.true)))

pub returns-else-all_exist : goal.returns-else-all_exist
unfolding exists instr_by choose
returns-else-all_exist c =
    c.if-all_exist.false ∙ (sym (and-on _ (is_below c.field.ensures.0 c.registers-registers.ensures.0 c.if-registers-field.false)
    ∙ and-off _ (pairs-exist _ _ 5 _ ∙ sym (all_same _ 6 2 c.registers-registers.ensures.0 c.field-2.ensures.0) ∙ sym c.all_exist.ensures ∙ c.if-all_exist.false)))
