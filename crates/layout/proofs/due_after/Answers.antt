-- `layout::due_after`: by the kind of the record.
use mathlib.Core.Path.{sym, ◌∙◌}
use borrow.Author.Tests.{ne_eqb}
use Rattle.layout.specs.Records.{choose}
use Rattle.layout.specs.Questions.{in_order, due_after}
use Rattle.layout.proofs.due_after.Goals as goal

pub returns-in-1 : goal.returns-in-1
unfolding in_order due_after choose
returns-in-1 c =
    rw (sym c.kind_at.ensures ∙ c.in-1.is) c.after_version.ensures

pub returns-in-3 : goal.returns-in-3
unfolding in_order due_after choose
returns-in-3 c =
    rw (sym c.kind_at.ensures ∙ c.in-3.is) c.after_level.ensures

pub returns-in-2 : goal.returns-in-2
unfolding in_order due_after choose
returns-in-2 c =
    rw (sym c.kind_at.ensures ∙ c.in-2.is) c.after_block.ensures

pub returns-in_default : goal.returns-in_default
unfolding in_order due_after choose
returns-in_default c =
    rw (← c.kind_at.ensures, ne_eqb _ _ c.in_default.in_default-own.rest.0.0.1, ne_eqb _ _ c.in_default.in_default-own.rest.0.1, ne_eqb _ _ c.in_default.in_default-own.rest.1) c.after_line.ensures
