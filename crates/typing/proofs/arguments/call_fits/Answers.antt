-- `typing::arguments::call_fits`: one test after the other.
use Rattle.layout.proofs.Bools.{and-on, and-off}
use Rattle.rules.specs.Fits.{fits_call}
use borrow.Author.Tests.{eq-eqb, ne_eqb}
use mathlib.Core.Path.{sym, ◌∙◌}
use Rattle.typing.proofs.arguments.call_fits.Goals as goal

pub returns-then-b-eq0 : goal.returns-then-b-eq0
unfolding fits_call
returns-then-b-eq0 c =
    c.return_fits.ensures ∙ sym (and-on _ (sym c.all_fit.ensures ∙ c.if-all_fit.true) ∙ and-on _ (rw (eq-eqb _ _ c.if-b-eq0.true)))

pub returns-then-does_empty : goal.returns-then-does_empty
unfolding fits_call
returns-then-does_empty c =
    sym (and-on _ (sym c.all_fit.ensures ∙ c.if-all_fit.true) ∙ and-off _ (rw (ne_eqb _ _ c.if-b-eq0.false, sym c.does_empty.ensures ∙ c.if-does_empty.true)))

pub returns-else-does_empty : goal.returns-else-does_empty
unfolding fits_call
returns-else-does_empty c =
    c.return_fits-else-does_empty.ensures ∙ sym (and-on _ (sym c.all_fit.ensures ∙ c.if-all_fit.true) ∙ and-on _ (rw (ne_eqb _ _ c.if-b-eq0.false, sym c.does_empty.ensures ∙ c.if-does_empty.false)))

pub returns-else-all_fit : goal.returns-else-all_fit
unfolding fits_call
returns-else-all_fit c =
    sym (and-off _ (sym c.all_fit.ensures ∙ c.if-all_fit.false))
