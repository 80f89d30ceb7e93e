-- `abi::trail::step`: what the step says, and the trail behind it.
use Rattle.abi.proofs.Trailing.{steps_on}
use Rattle.abi.proofs.trail.step.Goals as goal

pub returns : goal.returns
returns c =
    steps_on _ _ _ _ _ _ _ _ _ _ c.step-pause.ensures c.said.ensures
