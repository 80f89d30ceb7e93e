-- `abi::answers::outside`: by computation.
use Rattle.abi.specs.Looks.{no_place}
use mathlib.Core.Path.{refl}
use Rattle.abi.proofs.answers.outside.Goals as goal

pub returns : goal.returns
unfolding no_place
returns c =
    refl
