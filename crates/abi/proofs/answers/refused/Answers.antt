-- `abi::answers::refused`: by computation.
use Rattle.abi.specs.Answers.{answer_numbers}
use mathlib.Core.Path.{refl}
use Rattle.abi.proofs.answers.refused.Goals as goal

pub returns : goal.returns
unfolding answer_numbers
returns c =
    refl
