-- `typing::arguments::return_fits`: by the ownership of the return.
use Rattle.rules.specs.Fits.{fits_return}
use Rattle.rules.specs.Types.{kind_of, ownership_of, is_owned}
use borrow.Author.Tests.{eq-eqb, ne_eqb}
use mathlib.Core.Path.{◌∙◌}
use Rattle.typing.proofs.arguments.return_fits.Goals as goal

pub returns-then-t-eq-OWNED : goal.returns-then-t-eq-OWNED
unfolding fits_return is_owned ownership_of
returns-then-t-eq-OWNED c =
    c.takes_fresh.ensures ∙ simp (eq-eqb _ _ c.if-t-eq-OWNED.true)

pub returns-else-t-eq-OWNED : goal.returns-else-t-eq-OWNED
unfolding fits_return is_owned ownership_of kind_of
returns-else-t-eq-OWNED c =
    c.takes_plain.ensures ∙ simp (ne_eqb _ _ c.if-t-eq-OWNED.false)
