use Rattle.running.proofs.Resuming.{resume-all}
use Rattle.running.proofs.resume.Goals as goal

pub returns : goal.returns
returns c = resume-all _ _ _ _ _ _ _ c.resume_within.ensures
