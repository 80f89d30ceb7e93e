-- `sets::difference`: and-not goes digit by digit.
use Rattle.sets.proofs.Masks.{set-minus}
use Rattle.sets.proofs.difference.Goals as goal

pub returns : goal.returns
returns c =
    set-minus 16 _ _ c.ranges.b.fits
