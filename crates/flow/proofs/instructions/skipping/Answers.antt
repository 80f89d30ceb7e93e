use Rattle.layout.specs.Records.{every}
use Rattle.sets.proofs.Masks.{set-empty}
use mathlib.Core.Path.{◌∙◌}
use Rattle.flow.proofs.instructions.skipping.Goals as goal

pub returns : goal.returns
unfolding every
returns c =
    c.reading.ensures ∙ simp (c.named.ensures, set-empty)
