-- `flow::instructions::used`: one field is read and emptied, another is assigned.
use Rattle.flow.proofs.Listed.{touched}
use Rattle.layout.specs.Records.{every}
use mathlib.Core.Path.{◌∙◌}
use Rattle.flow.proofs.instructions.used.Goals as goal

pub returns : goal.returns
unfolding every
returns c =
    c.touching.ensures ∙ touched _ _ _ _ _ _ c.named-a.ensures c.named-a.ensures c.named.ensures
