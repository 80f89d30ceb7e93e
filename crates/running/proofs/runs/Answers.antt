use Rattle.frames.proofs.Tallying.{nothing-counted}
use mathlib.Core.Path.{refl}
use Rattle.running.proofs.Resuming.{nothing-cached}
use Rattle.running.proofs.runs.Goals as goal

pub tally-requires : goal.tally-requires
tally-requires c =
    (nothing-counted refl, c.requires.1)

pub go-requires : goal.go-requires
go-requires c =
    (c.tally.ensures, nothing-cached _ _ refl, c.requires.0)
