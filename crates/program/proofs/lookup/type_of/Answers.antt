-- `program::lookup::type_of`: the types are the fields from the seventh on.
use Rattle.program.proofs.Lookups.{type-inside, type-outside}
use mathlib.Core.Path.{sym, ◌∙◌}
use native.Mathlib.Omega.{arith}
use Rattle.program.proofs.lookup.type_of.Goals as goal

pub returns-then-r-field : goal.returns-then-r-field
returns-then-r-field c =
    (c.field-then-r-field.ensures.0 ∙ sym (type-inside _ _ _ (omega (arith, c.field.ensures.0, c.if-r-field.true))), c.field-then-r-field.ensures.1)

pub returns-else-r-field : goal.returns-else-r-field
returns-else-r-field c =
    (sym (type-outside _ _ _ (omega (arith, c.field.ensures.0, c.if-r-field.false))), omega arith)
