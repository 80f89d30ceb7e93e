-- `integers::less`: by the test.
use mathlib.Core.Path.{◌≡◌, refl}
use mathlib.Core.Bool.{Bool, true, false, cond}
use lib.IntN.{ℤ, pos}
use mir.Syntax.{w64}
use mir.Val.{bool_byte, to_z, of_z}
use mir.Facts.{to_z-of_z}
use Rattle.std.specs.Prelude.{Ok}
use Rattle.machine.specs.Try.{got}
use Rattle.integers.specs.Computed.{computed_of}
use Rattle.integers.proofs.less.Goals as goal

told : (t : Bool) (z : ℤ) → z ≡ pos (bool_byte t) → Ok (to_z w64 (of_z w64 z)) ≡ computed_of (got (cond t (pos 1) (pos 0)))
unfolding computed_of
told true z e = rw e refl
told false z e = rw e refl

pub returns : goal.returns
returns c = told _ _ (rw (to_z-of_z c.ranges.x, to_z-of_z c.ranges.y) at c.from.ensures)
