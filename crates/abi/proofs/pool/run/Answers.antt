use Rattle.abi.proofs.Pooling.{runs-begun, runs-refused}
use Rattle.abi.proofs.pool.run.Goals as goal

pub returns-in-Err : goal.returns-in-Err
returns-in-Err c =
    runs-refused _ _ _ _ _ _ _ _ _ _ _ c.enter.ensures _ _ c.in-Err.is c.refused.ensures

pub returns-in-Ok : goal.returns-in-Ok
returns-in-Ok c =
    runs-begun _ _ _ _ _ _ _ _ _ _ _ c.enter.ensures c.in-Ok.is _ _ _ c.budget.ensures
