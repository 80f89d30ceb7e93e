-- `flow::actions::touching`: three of the four sets as they are given.
use Rattle.flow.specs.Masks.{flowed}
use mathlib.Core.Path.{refl}
use Rattle.flow.proofs.actions.touching.Goals as goal

pub returns : goal.returns
unfolding flowed
returns c = refl
