use Rattle.flow.proofs.Blocks.{skip-none, skip-some}
use Rattle.flow.specs.Ways.{skip_in}
use Rattle.program.specs.Places.{instr_at}
use mathlib.Core.Path.{sym, ◌∙◌}
use Rattle.flow.proofs.ways.skip_at.Goals as goal

pub returns-then-kind_at-ne-SKIP : goal.returns-then-kind_at-ne-SKIP
unfolding skip_in instr_at
returns-then-kind_at-ne-SKIP c =
    skip-none _ _ _ (λ e. c.if-kind_at-ne-SKIP.true (c.kind_at.ensures ∙ e))

pub returns : goal.returns
unfolding instr_at
returns c =
    skip-some _ _ _ _ (sym c.kind_at.ensures ∙ c.if-kind_at-ne-SKIP.false) c.field.ensures.0
