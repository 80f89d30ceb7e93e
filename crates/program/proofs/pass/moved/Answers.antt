-- `program::pass::moved`: by the kind of the record.
use Rattle.layout.specs.Records.{choose}
use Rattle.program.specs.Places.{moved_to}
use borrow.Author.Tests.{lt-ltb, le-ltb, ne_eqb}
use mathlib.Core.Path.{sym, ◌∙◌}
use Rattle.program.proofs.pass.moved.Goals as goal

pub returns-in-1 : goal.returns-in-1
unfolding moved_to choose
returns-in-1 c =
    simp (sym c.kind_at.ensures ∙ c.in-1.is)

pub returns-then-blocks-image : goal.returns-then-blocks-image
unfolding moved_to choose
returns-then-blocks-image c =
    simp (sym c.kind_at.ensures ∙ c.in-2.is, lt-ltb _ _ c.if-blocks-image.true)

pub returns-else-blocks-image : goal.returns-else-blocks-image
unfolding moved_to choose
returns-else-blocks-image c =
    simp (sym c.kind_at.ensures ∙ c.in-2.is, le-ltb _ _ c.if-blocks-image.false)

pub returns-in_default : goal.returns-in_default
unfolding moved_to choose
returns-in_default c =
    simp (← c.kind_at.ensures, ne_eqb _ _ c.in_default.in_default-own.rest.0.1, ne_eqb _ _ c.in_default.in_default-own.rest.1)
