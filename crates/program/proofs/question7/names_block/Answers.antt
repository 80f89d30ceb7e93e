-- `program::question7::names_block`: only a PROM names a block.
use Rattle.layout.specs.Records.{choose}
use Rattle.program.proofs.Existence.{names-none}
use Rattle.program.specs.Places.{instr_at}
use Rattle.program.specs.Program.{instr_by}
use Rattle.program.specs.Questions.{names_block}
use mathlib.Core.Path.{sym, ◌∙◌}
use borrow.Author.Tests.{ne_eqb}
use Rattle.program.proofs.question7.names_block.Goals as goal

pub returns-then-kind_at-eq-PROM : goal.returns-then-kind_at-eq-PROM
unfolding names_block instr_at instr_by choose
returns-then-kind_at-eq-PROM c =
    simp (sym c.kind_at.ensures ∙ c.if-kind_at-eq-PROM.true, c.field.ensures.0)

pub returns-else-kind_at-eq-PROM : goal.returns-else-kind_at-eq-PROM
unfolding instr_at
returns-else-kind_at-eq-PROM c =
    ne_eqb _ _ c.if-kind_at-eq-PROM.false ∙ (sym (names-none _ _ _ (λ e. c.if-kind_at-eq-PROM.false (c.kind_at.ensures ∙ e))))
