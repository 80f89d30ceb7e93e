-- `program::lookup::slot`: by the kind and the bounds of both numbers.
use Rattle.layout.specs.Tests.{◌and◌}
use Rattle.program.specs.Places.{slot_of}
use borrow.Author.Tests.{eq-eqb, ne_eqb, lt-ltb, le-ltb}
use Rattle.program.proofs.lookup.slot.Goals as goal

pub returns-then-kind_at-ne-VERSION : goal.returns-then-kind_at-ne-VERSION
unfolding slot_of ◌and◌
returns-then-kind_at-ne-VERSION c =
    simp (← c.kind_at.ensures, ne_eqb _ _ c.if-kind_at-ne-VERSION.true)

pub returns-then-f-ge-FUNCTIONS : goal.returns-then-f-ge-FUNCTIONS
unfolding slot_of ◌and◌
returns-then-f-ge-FUNCTIONS c =
    simp (← c.kind_at.ensures, eq-eqb _ _ c.if-kind_at-ne-VERSION.false, ← c.field-f.ensures.0, le-ltb _ _ c.if-f-ge-FUNCTIONS.true)

pub returns-then-w-ge-VERSIONS : goal.returns-then-w-ge-VERSIONS
unfolding slot_of ◌and◌
returns-then-w-ge-VERSIONS c =
    simp (← c.kind_at.ensures, eq-eqb _ _ c.if-kind_at-ne-VERSION.false, ← c.field-f.ensures.0, lt-ltb _ _ c.if-f-ge-FUNCTIONS.false, ← c.field-w.ensures.0, le-ltb _ _ c.if-w-ge-VERSIONS.true)

pub returns : goal.returns
unfolding slot_of ◌and◌
returns c =
    simp (← c.kind_at.ensures, eq-eqb _ _ c.if-kind_at-ne-VERSION.false, ← c.field-f.ensures.0, lt-ltb _ _ c.if-f-ge-FUNCTIONS.false, ← c.field-w.ensures.0, lt-ltb _ _ c.if-w-ge-VERSIONS.false)
