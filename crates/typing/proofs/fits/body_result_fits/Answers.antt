-- `typing::fits::body_result_fits`: the kind of the register, then its ownership.
use Rattle.layout.proofs.Bools.{and-on, and-off}
use Rattle.program.specs.Places.{version_at, block_at}
use Rattle.rules.specs.Fits.{fits_result}
use Rattle.rules.specs.Types.{kind_of, ownership_of, is_owned, is_borrowed}
use borrow.Author.Tests.{eq-eqb, ne_eqb}
use mathlib.Core.Path.{sym, ◌∙◌}
use Rattle.typing.proofs.fits.body_result_fits.Goals as goal

pub returns-then-t-eq-OWNED : goal.returns-then-t-eq-OWNED
unfolding fits_result block_at version_at kind_of is_owned ownership_of
returns-then-t-eq-OWNED c =
    c.is_owned.ensures ∙ sym (and-on _ (rw (c.kind_in.ensures, c.field-t.ensures.0) at (sym c.is_within.ensures ∙ c.if-is_within.true)) ∙ rw (← c.field-t.ensures.0, eq-eqb _ _ c.if-t-eq-OWNED.true))

pub returns-else-t-eq-OWNED : goal.returns-else-t-eq-OWNED
unfolding fits_result block_at version_at kind_of is_owned is_borrowed ownership_of
returns-else-t-eq-OWNED c =
    rw c.type_in.ensures.0 (sym (and-on _ (rw (c.kind_in.ensures, c.field-t.ensures.0) at (sym c.is_within.ensures ∙ c.if-is_within.true)) ∙ rw (← c.field-t.ensures.0, ne_eqb _ _ c.if-t-eq-OWNED.false)))

pub returns-else-is_within : goal.returns-else-is_within
unfolding fits_result block_at version_at kind_of
returns-else-is_within c =
    sym (and-off _ (rw (c.kind_in.ensures, c.field-t.ensures.0) at (sym c.is_within.ensures ∙ c.if-is_within.false)))
