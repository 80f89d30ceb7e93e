use Rattle.pools.proofs.Having.{settled}
use Rattle.pools.proofs.settle.Goals as goal

pub returns : goal.returns
returns c =
    settled _ _ _ _ _ _ _ c.may_have-most.ensures c.cap.ensures c.note.ensures
