-- Bytes written one behind the other.
use mathlib.Core.Path.{◌≡◌, refl, ◌∙◌}
use mathlib.Core.List.{List, [], ◌∷◌}
use Prim.Native.Nat.{ℕ, zero, suc, ◌+◌, ◌≤◌, ◌<◌}
use native.Mathlib.Nat.{not-suc-le-zero, le_of_suc-le-suc}
use native.Mathlib.Omega.{arith}
use lib.ListN.{length, length-set, set}
use lib.Seq.{get_or-set_same, get_or-set_other}
use Rattle.layout.specs.Records.{◌!◌}

-- xs at the places i + j, i + j + 1 and so on
unfoldable pub row : List ℕ → ℕ → ℕ → List ℕ → List ℕ
row b i j [] = b
row b i j (x ∷ xs) = row (set b (i + j) x) i (j + 1) xs

pub length-row : (b : List ℕ) (i j : ℕ) (xs : List ℕ) → length (row b i j xs) ≡ length b
unfolding row
length-row b i j [] = refl
length-row b i j (x ∷ xs) = length-row (set b (i + j) x) i (j + 1) xs ∙ simp length-set

pub row_out : (b : List ℕ) (i j : ℕ) (xs : List ℕ) (m : ℕ) → (i + j ≤ m → m < i + j + length xs → ⊥) → row b i j xs ! m ≡ b ! m
unfolding row
row_out b i j [] m q = refl
row_out b i j (x ∷ xs) m q = row_out (set b (i + j) x) i (j + 1) xs m (λ a c. q (omega arith) (omega arith)) ∙ get_or-set_other b (i + j) m x 0 (λ z. q (omega arith) (omega arith))

pub row_in : (b : List ℕ) (i j : ℕ) (xs : List ℕ) (t : ℕ) → t < length xs → i + j + length xs ≤ length b → row b i j xs ! (i + (j + t)) ≡ xs ! t
unfolding row
row_in b i j [] t h l = absurd (not-suc-le-zero h)
row_in b i j (x ∷ xs) zero h l =
    let e : i + (j + 0) ≡ i + j = omega arith in
    rw e (row_out (set b (i + j) x) i (j + 1) xs (i + j) (λ a c. omega arith) ∙ get_or-set_same b (i + j) x 0 (omega arith))
row_in b i j (x ∷ xs) (suc t) h l =
    let e : i + (j + suc t) ≡ i + ((j + 1) + t) = omega arith in
    let s : length (set b (i + j) x) ≡ length b = simp length-set in
    rw e (row_in (set b (i + j) x) i (j + 1) xs t (le_of_suc-le-suc h) (omega arith))
