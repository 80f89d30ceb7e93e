-- `loaded::lookup::blocks`: the sixth field of its record.
use mathlib.Core.Path.{sym, ◌∙◌}
use Rattle.loaded.specs.Loaded.{version_in}
use Rattle.loaded.proofs.Lookups.{length-blocks}
use Rattle.loaded.proofs.lookup.blocks.Goals as goal

pub returns : goal.returns
unfolding version_in
returns c = c.byte.ensures ∙ rw c.head.ensures.0 (sym (length-blocks _ _ _ _))
