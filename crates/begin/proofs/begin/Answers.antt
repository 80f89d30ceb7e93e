-- `begin::begin`: a refusal, or the first arrays.
use Rattle.begin.proofs.Beginning.{refusal, beginning}
use Rattle.begin.proofs.begin.Goals as goal

pub returns-in-Err : goal.returns-in-Err
returns-in-Err c =
    refusal _ _ _ _ _ _ _ c.questions.ensures c.in-Err.is

pub returns-in-Ok : goal.returns-in-Ok
returns-in-Ok c =
    beginning _ _ _ _ _ _ _ c.questions.ensures c.in-Ok.is c.start.ensures
