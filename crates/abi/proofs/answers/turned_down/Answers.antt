-- `abi::answers::turned_down`: by computation.
use Rattle.abi.specs.Answers.{turn_numbers}
use mathlib.Core.Path.{refl}
use Rattle.abi.proofs.answers.turned_down.Goals as goal

pub returns : goal.returns
unfolding turn_numbers
returns c =
    refl
