-- `program::question14::ends_within`: a SKIP is asked of the ends from the next record on.
use Rattle.program.specs.Skips.{ends_within}
use borrow.Author.Tests.{ne_eqb}
use mathlib.Core.Path.{sym, ◌∙◌}
use Rattle.program.proofs.question14.ends_within.Goals as goal

pub returns-then-kind_at-eq-SKIP : goal.returns-then-kind_at-eq-SKIP
unfolding ends_within
returns-then-kind_at-eq-SKIP c =
    let is-skip = sym c.kind_at.ensures ∙ c.if-kind_at-eq-SKIP.true in
    c.none_before.ensures ∙ simp (is-skip, ← c.field.ensures.0, c.onward-ahead.ensures)

pub returns-else-kind_at-eq-SKIP : goal.returns-else-kind_at-eq-SKIP
unfolding ends_within
returns-else-kind_at-eq-SKIP c =
    simp (← c.kind_at.ensures, ne_eqb _ _ c.if-kind_at-eq-SKIP.false)
