use mathlib.Core.Path.{refl}
use Rattle.ending.proofs.close_run.Goals as goal

pub returns : goal.returns
returns c =
    refl
