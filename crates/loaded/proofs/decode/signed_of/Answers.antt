-- `loaded::decode::signed_of`: from 2⁶³ on the bits stand for a number below zero.
use Rattle.program.proofs.Literals.{upper_fits, upper-signed}
use mathlib.Core.Path.{◌∙◌}
use mir.Facts.{to_z-of_z}
use Rattle.loaded.proofs.decode.signed_of.Goals as goal

pub overflow_sub-result-else-u-lt9223372036854775808 : goal.overflow_sub-result-else-u-lt9223372036854775808
overflow_sub-result-else-u-lt9223372036854775808 c = upper_fits _ c.if-u-lt9223372036854775808.false c.ranges.u.fits

pub returns-else-u-lt9223372036854775808 : goal.returns-else-u-lt9223372036854775808
returns-else-u-lt9223372036854775808 c = to_z-of_z (upper_fits _ c.if-u-lt9223372036854775808.false c.ranges.u.fits) ∙ upper-signed _ c.if-u-lt9223372036854775808.false c.ranges.u.fits
