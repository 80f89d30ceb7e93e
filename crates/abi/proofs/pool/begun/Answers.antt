use Rattle.abi.proofs.Pooling.{begins-in}
use Rattle.abi.proofs.pool.begun.Goals as goal

pub returns : goal.returns
returns c =
    begins-in _ _ _ _ _ _ _ _ _ _ c.enter.ensures c.grant.ensures
