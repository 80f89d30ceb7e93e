use Rattle.running.proofs.Resuming.{resume-ended, resume-runs}
use Rattle.running.proofs.resume_within.Goals as goal

pub returns-then-bytes-ne0 : goal.returns-then-bytes-ne0
returns-then-bytes-ne0 c =
    resume-ended _ _ _ _ _ c.if-bytes-ne0.true

pub returns : goal.returns
returns c =
    resume-runs _ _ _ _ _ _ _ _ _ c.if-bytes-ne0.false c.runs.ensures
