-- A text that fits a buffer, one that does not, and none.
use mathlib.Core.Path.{◌≡◌, refl}
use mathlib.Core.List.{List, [], ◌∷◌}
use mathlib.Core.Bool.{false}
use Prim.Native.Nat.{ℕ, ◌+◌, ◌<◌, ◌≤◌}
use native.Mathlib.Omega.{arith}
use lib.Dec.{leb}
use lib.ListN.{length}
use borrow.Author.Tests.{le-leb, lt-leb, ne_eqb}
use Rattle.layout.specs.Records.{choose}
use Rattle.writer.specs.Text.{placed}
use Rattle.words.specs.Words.{written_of}

pub too_long : (t out : List ℕ) → length out < length t → (0 ≡ written_of t (length out)) × (out ≡ placed out 0 t)
unfolding written_of placed
too_long t out h =
    let e : leb (length t) (length out) ≡ false = lt-leb _ _ h in
    let f : leb (0 + length t) (length out) ≡ false = lt-leb (0 + length t) (length out) (omega arith) in
    (rw e refl, rw f refl)

pub fits : (t out after : List ℕ) → length t ≤ length out → after ≡ placed out 0 t → (length t ≡ written_of t (length out)) × (after ≡ placed out 0 t)
unfolding written_of
fits t out after h e = (rw (le-leb (length t) (length out) h) refl, e)

-- a row that is not that of the number n
pub next_row : {A : Type 0} (n : ℕ) (x : A) (row : ℕ × A) (rows : List (ℕ × A)) → (n ≡ row.0 → ⊥) → choose n x (row ∷ rows) ≡ choose n x rows
unfolding choose
next_row n x row rows h = rw (ne_eqb n row.0 h) refl

-- no row is left
pub no_row : {A : Type 0} (n : ℕ) (x : A) → choose n x [] ≡ x
unfolding choose
no_row n x = refl
