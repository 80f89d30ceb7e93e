-- `flow::instructions::plain`: a list of fields is read and the first field is assigned.
use Rattle.flow.proofs.Listed.{none_named, touched}
use Rattle.layout.specs.Records.{every}
use mathlib.Core.Path.{◌∙◌}
use Rattle.flow.proofs.instructions.plain.Goals as goal

pub returns : goal.returns
unfolding every
returns c =
    c.touching.ensures ∙ touched _ _ _ _ _ _ c.named.ensures none_named c.named-2.ensures
