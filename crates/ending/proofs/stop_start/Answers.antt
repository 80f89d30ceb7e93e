use Rattle.ending.proofs.Runs.{start-stops}
use Rattle.ending.proofs.stop_start.Goals as goal

pub returns : goal.returns
returns c = start-stops _ _ c.requires c.close_run.ensures
