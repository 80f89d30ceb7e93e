use Rattle.running.proofs.Resuming.{step_by}
use Rattle.running.proofs.step_within.Goals as goal

pub returns : goal.returns
returns c = step_by _ _ _ _ _ _ _ c.resume_within-r.ensures
