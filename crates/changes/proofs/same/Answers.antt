use Rattle.changes.proofs.Lists.{same-by}
use mathlib.Core.Path.{◌∙◌}
use Rattle.changes.proofs.same.Goals as goal

pub returns : goal.returns
returns c =
    c.eq.ensures ∙ same-by _ _
