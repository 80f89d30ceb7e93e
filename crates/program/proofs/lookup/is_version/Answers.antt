-- `program::lookup::is_version`: the kind and both numbers.
use Rattle.layout.specs.Tests.{◌and◌}
use borrow.Author.Tests.{eq-eqb, ne_eqb}
use Rattle.program.proofs.lookup.is_version.Goals as goal

pub returns-then-kind_at-ne-VERSION : goal.returns-then-kind_at-ne-VERSION
unfolding ◌and◌
returns-then-kind_at-ne-VERSION c =
    simp (← c.kind_at.ensures, ne_eqb _ _ c.if-kind_at-ne-VERSION.true)

pub returns-then-field-f : goal.returns-then-field-f
unfolding ◌and◌
returns-then-field-f c =
    simp (← c.kind_at.ensures, eq-eqb _ _ c.if-kind_at-ne-VERSION.false, ← c.field.ensures.0, ne_eqb _ _ c.if-field-f.true)

pub returns : goal.returns
unfolding ◌and◌
returns c =
    simp (← c.kind_at.ensures, eq-eqb _ _ c.if-kind_at-ne-VERSION.false, ← c.field.ensures.0, eq-eqb _ _ c.if-field-f.false, ← c.field-2.ensures.0)
