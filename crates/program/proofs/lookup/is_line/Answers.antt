-- `program::lookup::is_line`: test by test.
use Rattle.layout.specs.Tests.{◌and◌}
use Rattle.program.specs.Places.{is_line}
use borrow.Author.Tests.{lt-ltb, le-ltb, ne_eqb, eq-eqb}
use mathlib.Core.Path.{sym, ◌∙◌}
use Rattle.program.proofs.lookup.is_line.Goals as goal

pub returns-then-image-p : goal.returns-then-image-p
unfolding is_line ◌and◌
returns-then-image-p c =
    rw (le-ltb _ _ c.if-image-p.true)

pub returns-then-size_at-eq0 : goal.returns-then-size_at-eq0
unfolding is_line ◌and◌
returns-then-size_at-eq0 c =
    rw (lt-ltb _ _ c.if-image-p.false, eq-eqb _ _ (sym c.size_at.ensures ∙ c.if-size_at-eq0.true))

pub returns-then-k-eq-VERSION : goal.returns-then-k-eq-VERSION
unfolding is_line ◌and◌
returns-then-k-eq-VERSION c =
    rw (lt-ltb _ _ c.if-image-p.false, ← c.size_at.ensures, ne_eqb _ _ c.if-size_at-eq0.false, ← c.kind_at-k.ensures, eq-eqb _ _ c.if-k-eq-VERSION.true)

pub returns : goal.returns
unfolding is_line ◌and◌
returns c =
    rw (lt-ltb _ _ c.if-image-p.false, ← c.size_at.ensures, ne_eqb _ _ c.if-size_at-eq0.false, ← c.kind_at-k.ensures, ne_eqb _ _ c.if-k-eq-VERSION.false)
