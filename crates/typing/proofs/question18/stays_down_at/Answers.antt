-- `typing::question18::stays_down_at`: a CALL in a block of a version is asked.
use Rattle.layout.specs.Records.{records}
use Rattle.program.proofs.Passes.{asked-line, asked-outside, asked-before}
use Rattle.program.specs.Program.{program}
use Rattle.typing.proofs.Levels.{asked-other, call_at}
use Rattle.rules.specs.Questions.{question18}
use mathlib.Core.Path.{sym, ◌∙◌}
use native.Mathlib.Omega.{arith}
use Rattle.typing.proofs.question18.stays_down_at.Goals as goal

pub returns-then-kind_at-ne-CALL : goal.returns-then-kind_at-ne-CALL
returns-then-kind_at-ne-CALL c =
    sym (asked-other _ _ _ _ c.kind_at.ensures c.if-kind_at-ne-CALL.true)

pub returns-then-image-version : goal.returns-then-image-version
returns-then-image-version c =
    sym (asked-outside (question18 (program (records c.args.tabled.image.now))) _ _ _ c.kind_at.ensures (omega (arith, c.if-kind_at-ne-CALL.false)) c.if-image-version.true)

pub returns-then-blocks-eq0 : goal.returns-then-blocks-eq0
returns-then-blocks-eq0 c =
    sym (asked-before (question18 (program (records c.args.tabled.image.now))) _ _ _ c.kind_at.ensures (omega (arith, c.if-kind_at-ne-CALL.false)) c.if-blocks-eq0.true)

pub returns : goal.returns
returns c =
    c.call_stays_down.ensures ∙ call_at _ _ _ _ c.kind_at.ensures c.if-kind_at-ne-CALL.false
    ∙ sym (asked-line (question18 (program (records c.args.tabled.image.now))) _ _ _ c.kind_at.ensures (omega (arith, c.if-kind_at-ne-CALL.false)) (omega (arith, c.if-kind_at-ne-CALL.false)) c.if-image-version.false c.if-blocks-eq0.false)
