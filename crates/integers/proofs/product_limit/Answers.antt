-- `integers::product_limit`: by the signs.
use mathlib.Core.Path.{sym}
use mir.Facts.{to_z-of_z}
use Rattle.integers.proofs.Ranges.{alike, unlike}
use Rattle.integers.proofs.product_limit.Goals as goal

pub returns-then-x-y : goal.returns-then-x-y
returns-then-x-y c = sym (alike _ _ (rw (to_z-of_z c.ranges.x, to_z-of_z c.ranges.y) at c.if-x-y.true))

pub returns-else-x-y : goal.returns-else-x-y
returns-else-x-y c = sym (unlike _ _ (rw (to_z-of_z c.ranges.x, to_z-of_z c.ranges.y) at c.if-x-y.false))
