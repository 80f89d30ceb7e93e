-- `sets::size`: the ones of a mask are its members.
use Rattle.sets.proofs.Masks.{size-mask}
use mathlib.Core.Path.{sym}
use Rattle.sets.proofs.size.Goals as goal

pub returns : goal.returns
returns c =
    sym (size-mask 16 _ c.ranges.a.fits)
