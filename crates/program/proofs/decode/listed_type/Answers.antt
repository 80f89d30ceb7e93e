-- `program::decode::listed_type`: only a DISPATCH lists types.
use Rattle.layout.proofs.Fields.{every-at, every-past}
use Rattle.program.proofs.Forms.{type-dispatch, no-type}
use mathlib.Core.Path.{sym, ◌∙◌}
use native.Mathlib.Omega.{arith}
use Rattle.program.proofs.decode.listed_type.Goals as goal

pub returns-then-kind_at-ne-DISPATCH : goal.returns-then-kind_at-ne-DISPATCH
returns-then-kind_at-ne-DISPATCH c =
    (sym (no-type _ _ _ c.kind_at.ensures c.if-kind_at-ne-DISPATCH.true), omega arith)

pub returns-then-i-field : goal.returns-then-i-field
returns-then-i-field c =
    (c.field-then-i-field.ensures.0 ∙ sym (type-dispatch _ _ _ c.kind_at.ensures c.if-kind_at-ne-DISPATCH.false ∙ every-at _ 5 2 _ _ (omega (arith, c.field.ensures.0, c.if-i-field.true))), c.field-then-i-field.ensures.1)

pub returns-else-i-field : goal.returns-else-i-field
returns-else-i-field c =
    (sym (type-dispatch _ _ _ c.kind_at.ensures c.if-kind_at-ne-DISPATCH.false ∙ every-past _ 5 2 _ _ (omega (arith, c.field.ensures.0, c.if-i-field.false))), omega arith)
