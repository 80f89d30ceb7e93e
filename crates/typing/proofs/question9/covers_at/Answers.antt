-- `typing::question9::covers_at`: the mark, then the effect.
use Rattle.layout.specs.Records.{records}
use Rattle.program.proofs.Passes.{asked-block, asked-outside, asked-before, asked-no-block}
use Rattle.program.specs.Places.{block_at}
use Rattle.program.specs.Program.{program}
use Rattle.typing.proofs.Lines.{covers-mark, covers-quiet, covers-not}
use Rattle.rules.specs.Questions.{question9}
use mathlib.Core.Path.{refl, sym, ◌∙◌}
use native.Mathlib.Omega.{arith}
use Rattle.typing.proofs.question9.covers_at.Goals as goal

pub returns-then-kind_at-ne-BLOCK : goal.returns-then-kind_at-ne-BLOCK
returns-then-kind_at-ne-BLOCK c =
    sym (asked-no-block (question9 (program (records c.args.tabled.image.now))) _ _ _ c.kind_at.ensures c.if-kind_at-ne-BLOCK.true refl (λ v n. refl))

pub returns-then-image-version : goal.returns-then-image-version
returns-then-image-version c =
    sym (asked-outside (question9 (program (records c.args.tabled.image.now))) _ _ _ c.kind_at.ensures (omega (arith, c.if-kind_at-ne-BLOCK.false)) c.if-image-version.true)

pub returns-then-blocks-eq0 : goal.returns-then-blocks-eq0
returns-then-blocks-eq0 c =
    sym (asked-before (question9 (program (records c.args.tabled.image.now))) _ _ _ c.kind_at.ensures (omega (arith, c.if-kind_at-ne-BLOCK.false)) c.if-blocks-eq0.true)

pub returns-then-field-eq1 : goal.returns-then-field-eq1
unfolding block_at
returns-then-field-eq1 c =
    sym (asked-block (question9 (program (records c.args.tabled.image.now))) _ _ _ c.kind_at.ensures c.if-kind_at-ne-BLOCK.false c.if-image-version.false c.if-blocks-eq0.false ∙ covers-mark _ _ _ c.field.ensures.0 c.if-field-eq1.true)

pub returns-then-block_reflects : goal.returns-then-block_reflects
unfolding block_at
returns-then-block_reflects c =
    sym (asked-block (question9 (program (records c.args.tabled.image.now))) _ _ _ c.kind_at.ensures c.if-kind_at-ne-BLOCK.false c.if-image-version.false
    c.if-blocks-eq0.false ∙ covers-not _ _ _ c.field.ensures.0 c.if-field-eq1.false (sym c.block_reflects.ensures ∙ c.if-block_reflects.true))

pub returns-else-block_reflects : goal.returns-else-block_reflects
returns-else-block_reflects c =
    sym (asked-block (question9 (program (records c.args.tabled.image.now))) _ _ _ c.kind_at.ensures c.if-kind_at-ne-BLOCK.false c.if-image-version.false
    c.if-blocks-eq0.false ∙ covers-quiet _ _ _ (sym c.block_reflects.ensures ∙ c.if-block_reflects.false))
