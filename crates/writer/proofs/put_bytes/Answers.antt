-- `writer::put_bytes`: by whether the bytes fit.
use mathlib.Core.Path.{sym, ◌∙◌}
use native.Mathlib.Omega.{arith}
use borrow.Author.Tests.{leb-true, leb-false}
use Rattle.std.proofs.lemmas.Grind.{common_steps}
use Rattle.writer.proofs.Placed.{placed_past, placed-mid}
use Rattle.writer.proofs.put_bytes.Goals as goal

pub returns-then-fits : goal.returns-then-fits
returns-then-fits c =
    grind (arith, common_steps, c.copy_from_slice.ensures.after, placed-mid, leb-true)

pub returns-else-fits : goal.returns-else-fits
returns-else-fits c = sym (placed_past _ _ _ (leb-false _ _ (sym c.fits.ensures ∙ c.if-fits.false)))
