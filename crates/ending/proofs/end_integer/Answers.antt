use mir.Facts.{to_z-of_z}
use Rattle.ending.proofs.Runs.{integer-ends}
use Rattle.ending.proofs.end_integer.Goals as goal

pub returns : goal.returns
returns c =
    integer-ends _ _ c.requires c.close_run.ensures (to_z-of_z c.ranges.z)
