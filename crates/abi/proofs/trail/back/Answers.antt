-- `abi::trail::back`: the numbers of the step back, and the trail behind it.
use Rattle.abi.proofs.Trailing.{backs-on}
use Rattle.abi.proofs.trail.back.Goals as goal

pub returns : goal.returns
returns c =
    backs-on _ _ _ _ _ _ _ _ _ _ _ c.back.ensures c.grant.ensures
