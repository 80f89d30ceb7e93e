-- `typing::fits::result_fits`: by the number of the block.
use Rattle.program.specs.Places.{block_at}
use Rattle.rules.specs.Fits.{fits_result}
use borrow.Author.Tests.{ne_eqb}
use mathlib.Core.Path.{◌∙◌}
use Rattle.typing.proofs.fits.result_fits.Goals as goal

pub returns-then-b-eq0 : goal.returns-then-b-eq0
returns-then-b-eq0 c =
    c.body_result_fits.ensures ∙ rw c.if-b-eq0.true

pub returns-else-b-eq0 : goal.returns-else-b-eq0
unfolding fits_result block_at
returns-else-b-eq0 c =
    c.is_integer.ensures ∙ rw (ne_eqb _ _ c.if-b-eq0.false)
