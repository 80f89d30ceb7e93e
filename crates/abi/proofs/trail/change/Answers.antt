-- `abi::trail::change`: the numbers of the change, and the trail behind it.
use Rattle.abi.proofs.Trailing.{changes-on}
use Rattle.abi.proofs.trail.change.Goals as goal

pub returns : goal.returns
returns c =
    changes-on _ _ _ _ _ _ _ _ _ _ _ _ _ c.change.ensures c.grant.ensures
