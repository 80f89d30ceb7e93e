-- `abi::answers::version`: the numbers that the definition names.
use Rattle.abi.specs.Answers.{version_numbers}
use mathlib.Core.Path.{refl}
use Rattle.abi.proofs.answers.version.Goals as goal

pub returns : goal.returns
unfolding version_numbers
returns c = refl
