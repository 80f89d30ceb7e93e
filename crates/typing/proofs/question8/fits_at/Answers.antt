-- `typing::question8::fits_at`: what is asked goes by the kind of the record and where the pass stands.
use Rattle.layout.specs.Records.{records}
use Rattle.program.proofs.Passes.{asked-version, asked-block, asked-line, asked-outside, asked-before}
use Rattle.program.specs.Program.{program}
use Rattle.rules.specs.Questions.{question8}
use mathlib.Core.Path.{sym, ◌∙◌}
use Rattle.typing.proofs.question8.fits_at.Goals as goal

pub returns-then-kind-eq-VERSION : goal.returns-then-kind-eq-VERSION
returns-then-kind-eq-VERSION c =
    sym (asked-version (question8 (program (records c.args.tabled.image.now))) _ _ _ c.kind_at-kind.ensures c.if-kind-eq-VERSION.true)

pub returns-then-image-version : goal.returns-then-image-version
returns-then-image-version c =
    sym (asked-outside (question8 (program (records c.args.tabled.image.now))) _ _ _ c.kind_at-kind.ensures c.if-kind-eq-VERSION.false c.if-image-version.true)

pub returns-then-blocks-eq0 : goal.returns-then-blocks-eq0
returns-then-blocks-eq0 c =
    sym (asked-before (question8 (program (records c.args.tabled.image.now))) _ _ _ c.kind_at-kind.ensures c.if-kind-eq-VERSION.false c.if-blocks-eq0.true)

pub returns-then-kind-eq-BLOCK : goal.returns-then-kind-eq-BLOCK
returns-then-kind-eq-BLOCK c =
    c.result_fits.ensures ∙ sym (asked-block (question8 (program (records c.args.tabled.image.now))) _ _ _ c.kind_at-kind.ensures c.if-kind-eq-BLOCK.true c.if-image-version.false c.if-blocks-eq0.false)

pub returns-else-kind-eq-BLOCK : goal.returns-else-kind-eq-BLOCK
returns-else-kind-eq-BLOCK c =
    c.instruction_fits.ensures ∙ sym (asked-line (question8 (program (records c.args.tabled.image.now))) _ _ _ c.kind_at-kind.ensures c.if-kind-eq-VERSION.false c.if-kind-eq-BLOCK.false c.if-image-version.false c.if-blocks-eq0.false)
