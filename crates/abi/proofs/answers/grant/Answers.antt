-- `abi::answers::grant`: by what is granted.
use Rattle.abi.specs.Answers.{grant_numbers}
use Rattle.abi.proofs.answers.grant.Goals as goal

pub returns-in-Ok : goal.returns-in-Ok
unfolding grant_numbers
returns-in-Ok c = rw c.in-Ok.is

pub returns-in-Err : goal.returns-in-Err
unfolding grant_numbers
returns-in-Err c = rw c.in-Err.is
