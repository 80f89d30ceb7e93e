-- `integers::subtract`: the difference, where the library finds it in range.
use mathlib.Core.Path.{◌∙◌}
use mir.Facts.{to_z-of_z}
use Rattle.integers.proofs.Answers.{checked}
use Rattle.integers.proofs.subtract.Goals as goal

pub returns : goal.returns
returns c =
    c.ok_or.ensures.value ∙ checked _ _ (rw (to_z-of_z c.ranges.x, to_z-of_z c.ranges.y) at c.checked_sub.ensures)
