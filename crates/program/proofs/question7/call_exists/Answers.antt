-- `program::question7::call_exists`: a version that is looked up stands at its place.
use Rattle.layout.proofs.Bools.{and-on, and-off, is_below, is-above, found_some, found_none}
use Rattle.layout.proofs.Fields.{length-every}
use Rattle.layout.specs.Records.{choose}
use Rattle.program.proofs.Existence.{all_same}
use Rattle.program.proofs.Lookups.{version-found, version-missing}
use Rattle.program.specs.Places.{version_at}
use Rattle.program.specs.Program.{instr_by}
use Rattle.program.specs.Questions.{exists}
use mathlib.Core.Path.{sym, ◌∙◌}
use Rattle.program.proofs.question7.call_exists.Goals as goal

pub returns-then-registers-field : goal.returns-then-registers-field
unfolding exists instr_by choose
returns-then-registers-field c =
    sym (and-off _ (is-above c.field.ensures.0 c.registers-registers.ensures.0 c.if-registers-field.true))

pub returns-in_default : goal.returns-in_default
unfolding exists instr_by choose
returns-in_default c =
    sym (and-on _ (is_below c.field.ensures.0 c.registers-registers.ensures.0 c.if-registers-field.false)
    ∙ and-on _ (sym (all_same _ 4 1 c.registers-registers.ensures.0 c.field-n.ensures.0) ∙ sym c.all_exist.ensures ∙ c.if-all_exist.true)
    ∙ found_none _ (rw (← c.field-f.ensures.0, ← c.field-w.ensures.0) (version-missing _ _ _ (sym c.version.ensures ∙ c.in_default.is))))

pub returns-in-Some : goal.returns-in-Some
unfolding exists instr_by choose version_at
returns-in-Some c =
    simp (c.field-n.ensures.0, c.field-then-all_exist.ensures.0)
    (sym (and-on _ (is_below c.field.ensures.0 c.registers-registers.ensures.0 c.if-registers-field.false)
    ∙ and-on _ (sym (all_same _ 4 1 c.registers-registers.ensures.0 c.field-n.ensures.0) ∙ sym c.all_exist.ensures
    ∙ c.if-all_exist.true)
    ∙ found_some _ (rw (c.field-f.ensures.0, c.field-w.ensures.0) at
    (version-found _ _ _ _ (sym c.version.ensures ∙ c.in-Some.is)).0) ∙ simp length-every))

pub returns-else-all_exist : goal.returns-else-all_exist
unfolding exists instr_by choose
returns-else-all_exist c =
    sym (and-on _ (is_below c.field.ensures.0 c.registers-registers.ensures.0 c.if-registers-field.false) ∙ and-off _ (sym (all_same _ 4 1 c.registers-registers.ensures.0 c.field-n.ensures.0) ∙ sym c.all_exist.ensures ∙ c.if-all_exist.false))
