-- `machine::holds`: a search is the definition's.
use mathlib.Core.Path.{◌∙◌}
use Rattle.machine.proofs.Places.{searched}
use Rattle.machine.proofs.holds.Goals as goal

pub returns : goal.returns
returns c = c.contains.ensures.value ∙ searched _ _
