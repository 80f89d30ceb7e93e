-- `layout::in_bounds`: one row of the table for each kind that has bounds.
use Rattle.layout.specs.Questions.{in_bounds}
use Rattle.layout.specs.Records.{choose}
use Rattle.layout.specs.Tests.{◌and◌}
use borrow.Author.Tests.{lt-ltb, le-ltb, ne_eqb}
use mathlib.Core.Path.{sym, ◌∙◌}
use Rattle.layout.proofs.in_bounds.Goals as goal

pub returns-in-1 : goal.returns-in-1
unfolding in_bounds choose
returns-in-1 c =
    c.version_in_bounds.ensures ∙ simp (sym c.kind_at.ensures ∙ c.in-1.is)

pub returns-then-field-lt-MARKS : goal.returns-then-field-lt-MARKS
unfolding in_bounds choose ◌and◌
returns-then-field-lt-MARKS c =
    simp (sym c.kind_at.ensures ∙ c.in-2.is, ← c.field.ensures.0, ← c.field-then-field-lt-MARKS.ensures.0, lt-ltb _ _ c.if-field-lt-MARKS.true)

pub returns-else-field-lt-MARKS : goal.returns-else-field-lt-MARKS
unfolding in_bounds choose ◌and◌
returns-else-field-lt-MARKS c =
    simp (sym c.kind_at.ensures ∙ c.in-2.is, ← c.field.ensures.0, le-ltb _ _ c.if-field-lt-MARKS.false)

pub returns-in-3 : goal.returns-in-3
unfolding in_bounds choose
returns-in-3 c =
    simp (sym c.kind_at.ensures ∙ c.in-3.is, ← c.field-in-3.ensures.0)

pub returns-in-20 : goal.returns-in-20
unfolding in_bounds choose
returns-in-20 c =
    simp (sym c.kind_at.ensures ∙ c.in-20.is, ← c.field-in-20.ensures.0)

pub returns-in-24 : goal.returns-in-24
unfolding in_bounds choose
returns-in-24 c =
    simp (sym c.kind_at.ensures ∙ c.in-24.is, ← c.field-in-24.ensures.0)

pub returns-in-33 : goal.returns-in-33
unfolding in_bounds choose
returns-in-33 c =
    simp (sym c.kind_at.ensures ∙ c.in-33.is, ← c.field-in-33.ensures.0)

pub returns-then-field-lt-MARKS-2 : goal.returns-then-field-lt-MARKS-2
unfolding in_bounds choose ◌and◌
returns-then-field-lt-MARKS-2 c =
    simp (sym c.kind_at.ensures ∙ c.in-34.is, ← c.field-in-34.ensures.0, ← c.field-then-field-lt-MARKS-2.ensures.0, lt-ltb _ _ c.if-field-lt-MARKS-2.true)

pub returns-else-field-lt-MARKS-2 : goal.returns-else-field-lt-MARKS-2
unfolding in_bounds choose ◌and◌
returns-else-field-lt-MARKS-2 c =
    simp (sym c.kind_at.ensures ∙ c.in-34.is, ← c.field-in-34.ensures.0, le-ltb _ _ c.if-field-lt-MARKS-2.false)

pub returns-in_default : goal.returns-in_default
unfolding in_bounds choose
returns-in_default c =
    simp (← c.kind_at.ensures, ne_eqb _ _ c.in_default.in_default-own.rest.0.0.0.0.0.0.1, ne_eqb _ _ c.in_default.in_default-own.rest.0.0.0.0.0.1, ne_eqb _ _ c.in_default.in_default-own.rest.0.0.0.0.1, ne_eqb _ _ c.in_default.in_default-own.rest.0.0.0.1, ne_eqb _ _ c.in_default.in_default-own.rest.0.0.1, ne_eqb _ _ c.in_default.in_default-own.rest.0.1, ne_eqb _ _ c.in_default.in_default-own.rest.1)
