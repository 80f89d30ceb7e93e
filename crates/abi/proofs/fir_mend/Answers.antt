-- `abi::fir_mend`: the numbers of what can be done for the image.
use mathlib.Core.Path.{ap, ◌∙◌}
use Rattle.abi.specs.Answers.{mended_numbers}
use Rattle.abi.proofs.fir_mend.Goals as goal

pub returns : goal.returns
returns c =
    c.mended.ensures ∙ ap mended_numbers c.mend.ensures
