-- `loaded::lookup::returns`: the fifth field of its record.
use mathlib.Core.Path.{refl, ◌∙◌}
use Rattle.loaded.specs.Loaded.{version_in}
use Rattle.loaded.proofs.lookup.returns.Goals as goal

pub returns : goal.returns
unfolding version_in
returns c = c.byte.ensures ∙ rw c.head.ensures.0 refl
