use Rattle.running.proofs.Resuming.{step-all}
use Rattle.running.proofs.step.Goals as goal

pub returns : goal.returns
returns c = step-all _ _ _ _ _ _ c.step_within.ensures
