-- `program::question14::ends_after`: by the kind of the record.
use Rattle.layout.specs.Records.{choose}
use Rattle.program.specs.Skips.{ends_after}
use borrow.Author.Tests.{ne_eqb}
use Rattle.std.proofs.Common.{rules}
use mathlib.Core.Path.{sym, ◌∙◌}
use Rattle.program.proofs.question14.ends_after.Goals as goal

pub returns-in-2 : goal.returns-in-2
unfolding ends_after choose
returns-in-2 c =
    let is_Block = sym c.kind_at.ensures ∙ c.in-2.is in
    c.with_end.ensures ∙ simp (is_Block, ← c.field.ensures.0, c.none.ensures)

pub returns-in-35 : goal.returns-in-35
unfolding ends_after choose
returns-in-35 c =
    let is-skip = sym c.kind_at.ensures ∙ c.in-35.is in
    c.with_end-in-35.ensures ∙ simp (is-skip, ← c.field-in-35.ensures.0, c.onward.ensures)

pub returns-in_default : goal.returns-in_default
unfolding ends_after choose
returns-in_default c =
    c.onward-in_default.ensures ∙ simp (← c.kind_at.ensures, ne_eqb c.kind_at.result 2 (search rules), ne_eqb c.kind_at.result 35 (search rules))
