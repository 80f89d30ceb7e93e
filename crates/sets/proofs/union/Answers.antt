-- `sets::union`: or goes digit by digit.
use Rattle.sets.proofs.Masks.{set-or}
use Rattle.sets.proofs.union.Goals as goal

pub returns : goal.returns
returns c =
    set-or 16 _ _
