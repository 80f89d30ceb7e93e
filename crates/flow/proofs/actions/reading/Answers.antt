-- `flow::actions::reading`: three of the four sets are empty.
use Rattle.flow.specs.Masks.{flowed}
use mathlib.Core.Path.{refl}
use Rattle.flow.proofs.actions.reading.Goals as goal

pub returns : goal.returns
unfolding flowed
returns c =
    refl
