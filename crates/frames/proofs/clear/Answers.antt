-- `frames::clear`: 24 zeros over the tags of the frame.
use native.Mathlib.Omega.{arith}
use lib.ListN.{length-take, length-drop}
use Rattle.frames.proofs.Opening.{cleared-by}
use Rattle.frames.proofs.clear.Goals as goal

pub returns : goal.returns
returns c =
    cleared-by _ _ c.requires.0 _ _ _ c.requires.1 (c.fill.ensures.after (λ y e. e)) (omega arith) (simp (length-take, length-drop) (omega arith))
