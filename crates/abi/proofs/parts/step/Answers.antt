-- `abi::parts::step`: what the step says, and the arrays that it leaves.
use Rattle.abi.proofs.Pausing.{steps-with}
use Rattle.abi.proofs.parts.step.Goals as goal

pub returns : goal.returns
returns c =
    steps-with _ _ _ _ _ _ c.step-pause.ensures c.said.ensures
