use Rattle.ending.proofs.Runs.{run-stops}
use Rattle.ending.proofs.stop_run.Goals as goal

pub returns : goal.returns
returns c =
    run-stops _ _ _ c.requires c.status.ensures
