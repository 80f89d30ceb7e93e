-- `changes::same_version`: the parts that are compared end where the versions do.
use Rattle.changes.specs.Parts.{part_at}
use Rattle.machine.specs.Changes.{slice}
use mathlib.Core.Path.{refl, ◌∙◌}
use Rattle.changes.proofs.same_version.Goals as goal

pub returns : goal.returns
unfolding part_at slice
returns c =
    c.same.ensures ∙ rw (c.version_end-e.ensures.0, c.version_end-g.ensures.0) refl
