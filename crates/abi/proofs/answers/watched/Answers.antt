-- `abi::answers::watched`: by the answer.
use Rattle.abi.specs.Answers.{watched_numbers}
use Rattle.abi.proofs.answers.watched.Goals as goal

pub returns-in-Ok : goal.returns-in-Ok
unfolding watched_numbers
returns-in-Ok c =
    rw c.in-Ok.is

pub returns-in-Err : goal.returns-in-Err
unfolding watched_numbers
returns-in-Err c =
    rw c.in-Err.is
