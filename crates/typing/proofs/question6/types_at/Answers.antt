-- `typing::question6::types_at`: only VERSION and DISPATCH have type bytes.
use Rattle.program.proofs.Passes.{asked-version, asked-line, asked-outside, asked-before, asked-anywhere}
use Rattle.program.specs.Places.{instr_at}
use Rattle.typing.proofs.TypeBytes.{no-types}
use Rattle.rules.specs.Questions.{question6}
use mathlib.Core.Path.{refl, sym, ◌∙◌}
use native.Mathlib.Omega.{arith}
use Rattle.typing.proofs.question6.types_at.Goals as goal

pub returns-in-1 : goal.returns-in-1
returns-in-1 c =
    c.version_types.ensures ∙ sym (asked-version question6 _ _ _ c.kind_at.ensures c.in-1.is)

pub returns-then-image-version : goal.returns-then-image-version
returns-then-image-version c =
    sym (asked-outside question6 _ _ _ c.kind_at.ensures (omega (arith, c.in-34.is)) c.if-image-version.true)

pub returns-then-blocks-eq0 : goal.returns-then-blocks-eq0
returns-then-blocks-eq0 c =
    sym (asked-before question6 _ _ _ c.kind_at.ensures (omega (arith, c.in-34.is)) c.if-blocks-eq0.true)

pub returns-else-blocks-eq0 : goal.returns-else-blocks-eq0
unfolding instr_at
returns-else-blocks-eq0 c =
    c.dispatch_types.ensures ∙ sym
    (asked-line question6 _ _ _ c.kind_at.ensures (omega (arith, c.in-34.is)) (omega (arith, c.in-34.is)) c.if-image-version.false c.if-blocks-eq0.false ∙ rw (sym c.kind_at.ensures ∙ c.in-34.is))

pub returns-in_default : goal.returns-in_default
unfolding instr_at
returns-in_default c =
    sym (asked-anywhere question6 _ _ _ c.kind_at.ensures c.in_default.in_default-own.rest.0.1 (λ v n. refl) (λ v n. no-types _ _ (λ e. c.in_default.in_default-own.rest.1 (c.kind_at.ensures ∙ e))))
