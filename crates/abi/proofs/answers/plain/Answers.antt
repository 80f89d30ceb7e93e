-- `abi::answers::plain`: by computation.
use Rattle.abi.specs.Answers.{plain_numbers}
use mathlib.Core.Path.{refl}
use Rattle.abi.proofs.answers.plain.Goals as goal

pub returns : goal.returns
unfolding plain_numbers
returns c =
    refl
