-- `loaded::lookup::registers`: the fourth field of its record, which is the length of its types.
use mathlib.Core.Path.{sym, ◌∙◌}
use Rattle.loaded.specs.Loaded.{version_in}
use Rattle.layout.proofs.Fields.{length-every}
use Rattle.loaded.proofs.lookup.registers.Goals as goal

pub returns : goal.returns
unfolding version_in
returns c = c.byte.ensures ∙ rw c.head.ensures.0 (sym (length-every _ _ 1 _))
