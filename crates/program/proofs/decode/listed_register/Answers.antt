-- `program::decode::listed_register`: by the kind of the record.
use Rattle.layout.proofs.Fields.{every-at, every-past, fields_at}
use Rattle.program.proofs.Forms.{operand-vec, operand-call, operand-dispatch, no_operand}
use mathlib.Core.Path.{sym, ◌∙◌}
use native.Mathlib.Omega.{arith}
use Rattle.program.proofs.decode.listed_register.Goals as goal

pub returns-then-i-field : goal.returns-then-i-field
returns-then-i-field c =
    (c.field-then-i-field.ensures.0 ∙ sym (operand-vec _ _ _ c.kind_at.ensures c.in-20.is ∙ fields_at _ 2 _ _ (omega (arith, c.field.ensures.0, c.if-i-field.true))), c.field-then-i-field.ensures.1)

pub returns-else-i-field : goal.returns-else-i-field
returns-else-i-field c =
    (sym (operand-vec _ _ _ c.kind_at.ensures c.in-20.is ∙ every-past _ 2 1 _ _ (omega (arith, c.field.ensures.0, c.if-i-field.false))), omega arith)

pub returns-then-i-field-2 : goal.returns-then-i-field-2
returns-then-i-field-2 c =
    (c.field-then-i-field-2.ensures.0 ∙ sym (operand-call _ _ _ c.kind_at.ensures c.in-33.is ∙ fields_at _ 4 _ _ (omega (arith, c.field-in-33.ensures.0, c.if-i-field-2.true))), c.field-then-i-field-2.ensures.1)

pub returns-else-i-field-2 : goal.returns-else-i-field-2
returns-else-i-field-2 c =
    (sym (operand-call _ _ _ c.kind_at.ensures c.in-33.is ∙ every-past _ 4 1 _ _ (omega (arith, c.field-in-33.ensures.0, c.if-i-field-2.false))), omega arith)

pub returns-then-i-field-3 : goal.returns-then-i-field-3
returns-then-i-field-3 c =
    (c.field-then-i-field-3.ensures.0 ∙ sym (operand-dispatch _ _ _ c.kind_at.ensures c.in-34.is ∙ every-at _ 6 2 _ _ (omega (arith, c.field-in-34.ensures.0, c.if-i-field-3.true))), c.field-then-i-field-3.ensures.1)

pub returns-else-i-field-3 : goal.returns-else-i-field-3
returns-else-i-field-3 c =
    (sym (operand-dispatch _ _ _ c.kind_at.ensures c.in-34.is ∙ every-past _ 6 2 _ _ (omega (arith, c.field-in-34.ensures.0, c.if-i-field-3.false))), omega arith)

pub returns-in_default : goal.returns-in_default
returns-in_default c =
    (sym (no_operand _ _ _ c.kind_at.ensures c.in_default.in_default-own.rest.0.0.1 c.in_default.in_default-own.rest.0.1 c.in_default.in_default-own.rest.1), omega arith)
