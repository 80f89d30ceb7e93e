-- `writer::put_number`: by whether the digits fit.
use mathlib.Core.Path.{sym, ◌∙◌}
use borrow.Author.Tests.{leb-true, leb-false}
use Rattle.writer.proofs.Placed.{placed_past}
use Rattle.writer.proofs.put_number.Goals as goal

pub put_digits-requires : goal.put_digits-requires
put_digits-requires c =
    record { size_value = c.digits_of-size.ensures.0; size_in_bounds = leb-true _ _ (sym c.fits.ensures ∙ c.if-fits.true) }

pub returns-else-fits : goal.returns-else-fits
returns-else-fits c =
    sym (placed_past _ _ _ (leb-false _ _ (rw (← c.digits_of-size.ensures.0) (sym c.fits.ensures ∙ c.if-fits.false))))
