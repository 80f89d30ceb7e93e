-- `sets::meets`: the digits that two masks share are those of their and.
use Rattle.sets.proofs.Masks.{meets-mask}
use Rattle.sets.proofs.meets.Goals as goal

pub returns : goal.returns
returns c =
    meets-mask 16 _ _ c.ranges.a.fits
