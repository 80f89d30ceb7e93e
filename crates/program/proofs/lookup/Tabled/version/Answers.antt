-- `program::lookup::Tabled::version`: the image's own table lists each version.
use mathlib.Core.Path.{◌∙◌}
use Rattle.program.proofs.Tables.{listed-right}
use Rattle.program.proofs.lookup.Tabled.version.Goals as goal

pub returns : goal.returns
returns c = c.listed.ensures ∙ listed-right _ _ _ _ c.args.self.listed
