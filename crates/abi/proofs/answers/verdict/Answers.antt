-- `abi::answers::verdict`: by the verdict.
use Rattle.abi.specs.Answers.{verdict_numbers}
use Rattle.abi.proofs.answers.verdict.Goals as goal

pub returns-in-Ok : goal.returns-in-Ok
unfolding verdict_numbers
returns-in-Ok c =
    rw c.in-Ok.is

pub returns-in-Err : goal.returns-in-Err
unfolding verdict_numbers
returns-in-Err c =
    rw c.in-Err.is
