-- What is said of a text that was written, as a number.
use Rattle.std.specs.Prelude.{None, Option, Some}
use mathlib.Core.Path.{◌≡◌, refl}
use mathlib.Core.List.{List}
use mathlib.Core.Bool.{Bool, true, false, cond}
use Prim.Native.Nat.{ℕ}
use lib.Dec.{leb}
use lib.ListN.{length}
use Rattle.checker.specs.Reports.{reported_of}
use Rattle.words.specs.Words.{written_of}

-- the length of a text that was written; 0 where the buffer was too short
unfoldable pub length_in : Option ℕ → ℕ
length_in (Some n) = n
length_in None = 0

pub written_is : (t : List ℕ) (places : ℕ) → length_in (reported_of t places) ≡ written_of t places
unfolding length_in reported_of written_of
written_is t places = go (leb (length t) places)
  where
    go : (b : Bool) → length_in (cond b (Some (length t)) None) ≡ cond b (length t) 0
    go true = refl
    go false = refl
