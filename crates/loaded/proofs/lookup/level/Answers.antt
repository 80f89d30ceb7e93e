-- `loaded::lookup::level`: the first field of the record behind its own.
use mathlib.Core.Path.{refl, ◌∙◌}
use Rattle.loaded.specs.Loaded.{version_in}
use Rattle.loaded.proofs.lookup.level.Goals as goal

pub returns : goal.returns
unfolding version_in
returns c = c.byte-2.ensures ∙ rw (c.byte.ensures, c.head-e.ensures.0) refl
