use Rattle.abi.proofs.Pooling.{makes-in}
use Rattle.abi.proofs.pool.make.Goals as goal

pub returns : goal.returns
returns c =
    makes-in _ _ _ _ _ _ c.make.ensures c.grant.ensures
