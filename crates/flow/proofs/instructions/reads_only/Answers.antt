-- `flow::instructions::reads_only`: a list of fields is read.
use Rattle.flow.proofs.Listed.{none_named, touched}
use mathlib.Core.Path.{◌∙◌}
use Rattle.flow.proofs.instructions.reads_only.Goals as goal

pub returns : goal.returns
returns c =
    c.touching.ensures ∙ touched _ _ _ _ _ _ c.named.ensures none_named none_named
