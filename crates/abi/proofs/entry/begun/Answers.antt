-- `abi::entry::begun`: the numbers of the entry; the arrays are those that `begin` leaves.
use Rattle.abi.proofs.Starting.{begins}
use Rattle.abi.proofs.entry.begun.Goals as goal

pub returns : goal.returns
returns c =
    begins _ _ _ _ _ _ _ _ c.grant.ensures c.begin.ensures
