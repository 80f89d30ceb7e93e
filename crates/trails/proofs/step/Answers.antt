-- `trails::step`: a budget of one, and what it counts.
use Rattle.trails.proofs.Stepping.{step-counted}
use Rattle.trails.proofs.step.Goals as goal

pub returns : goal.returns
returns c = step-counted _ _ _ _ _ _ _ _ _ _ c.resume-counted.ensures
