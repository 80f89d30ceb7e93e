-- `program::lookup::Tabled::has_function`: the image's own table lists each version.
use mathlib.Core.Path.{◌∙◌}
use Rattle.program.proofs.Tables.{function-right}
use Rattle.program.proofs.lookup.Tabled.has_function.Goals as goal

pub returns : goal.returns
returns c = c.has_function.ensures ∙ function-right _ _ _ c.args.self.listed
