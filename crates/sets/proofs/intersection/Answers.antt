-- `sets::intersection`: and goes digit by digit.
use Rattle.sets.proofs.Masks.{set-and}
use Rattle.sets.proofs.intersection.Goals as goal

pub returns : goal.returns
returns c =
    set-and 16 _ _
