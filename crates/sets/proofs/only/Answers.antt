-- `sets::only`: 1 shifted by r has the digit r alone.
use Rattle.sets.proofs.Masks.{set_single, set-empty, only-outside}
use Rattle.sets.specs.Sets.{set_of}
use lib.Pow.{pow-lt}
use mathlib.Core.Path.{sym, ap, ◌∙◌}
use native.Mathlib.Nat.{one-mul, mod-eq_of_lt}
use Rattle.sets.proofs.only.Goals as goal

pub returns-then-r-lt-WIDTH : goal.returns-then-r-lt-WIDTH
returns-then-r-lt-WIDTH c =
    simp one-mul (ap (set_of 16) (mod-eq_of_lt (pow-lt c.if-r-lt-WIDTH.true)) ∙ set_single 16 _ c.if-r-lt-WIDTH.true)

pub returns-else-r-lt-WIDTH : goal.returns-else-r-lt-WIDTH
returns-else-r-lt-WIDTH c =
    set-empty 16 ∙ sym (only-outside 16 _ c.if-r-lt-WIDTH.false)
