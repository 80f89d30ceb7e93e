-- `abi::entry::run`: a refusal leaves all; a begun run gets its first budget.
use Rattle.abi.proofs.Pausing.{run-begun, run-refused}
use Rattle.abi.proofs.entry.run.Goals as goal

pub returns-in-Err : goal.returns-in-Err
returns-in-Err c =
    run-refused _ _ _ _ _ _ _ _ _ _ _ c.begin.ensures _ _ c.in-Err.is c.refused.ensures

pub returns-in-Ok : goal.returns-in-Ok
returns-in-Ok c =
    run-begun _ _ _ _ _ _ _ _ _ _ _ c.begin.ensures _ _ _ c.in-Ok.is c.budget.ensures.0
