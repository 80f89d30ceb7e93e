-- Frames beside renumbered ones.
use mathlib.Core.Path.{◌≡◌, refl, sym, ap, ◌∙◌}
use mathlib.Core.List.{List, [], ◌∷◌}
use mathlib.Core.Bool.{Bool}
use Prim.Native.Nat.{ℕ, zero, suc, ◌≤◌, ◌<◌}
use native.Mathlib.Nat.{le_of_suc-le-suc, not-suc-le-zero}
use native.Mathlib.Omega.{arith}
use lib.ListN.{length, length-set, take, set}
use Rattle.layout.specs.Tests.{any}
use Rattle.machine.specs.Try.{at, or_stuck}
use Rattle.machine.specs.declared.Frame.{Frame}
use Rattle.joins.specs.Shifted.{shift_frame}
use Rattle.joins.specs.Alongside.{Beside}
use Rattle.joins.proofs.Both.{Both}

module _ (k n : ℕ) where
  pub beside_at : (m : ℕ) (xs ys : List Frame) → Beside k n m xs ys → (i : ℕ) → Both (λ (x y : Frame). (x.function < n) × (y ≡ shift_frame k x)) (at (take m xs) i) (at (take m ys) i)
  unfolding Beside Both at or_stuck
  beside_at zero [] [] b i = tt
  beside_at zero [] (y ∷ ys) b i = tt
  beside_at zero (x ∷ xs) [] b i = tt
  beside_at zero (x ∷ xs) (y ∷ ys) b i = tt
  beside_at (suc m) [] [] b i = tt
  beside_at (suc m) [] (y ∷ ys) b i = absurd b
  beside_at (suc m) (x ∷ xs) [] b i = absurd b
  beside_at (suc m) (x ∷ xs) (y ∷ ys) b zero = (b.0, b.1)
  beside_at (suc m) (x ∷ xs) (y ∷ ys) b (suc i) = beside_at m xs ys b.2 i

  pub beside-length : (m : ℕ) (xs ys : List Frame) → Beside k n m xs ys → length ys ≡ length xs
  unfolding Beside
  beside-length zero xs ys b = b
  beside-length (suc m) [] [] b = refl
  beside-length (suc m) [] (y ∷ ys) b = absurd b
  beside-length (suc m) (x ∷ xs) [] b = absurd b
  beside-length (suc m) (x ∷ xs) (y ∷ ys) b = ap suc (beside-length m xs ys b.2)

  pub beside-set : (m : ℕ) (xs ys : List Frame) (g : Frame) → g.function < n → Beside k n m xs ys → (j : ℕ) → Beside k n m (set xs j g) (set ys j (shift_frame k g))
  unfolding Beside
  beside-set zero xs ys g h b j = length-set ys j (shift_frame k g) ∙ b ∙ sym (length-set xs j g)
  beside-set (suc m) [] [] g h b j = tt
  beside-set (suc m) [] (y ∷ ys) g h b j = absurd b
  beside-set (suc m) (x ∷ xs) [] g h b j = absurd b
  beside-set (suc m) (x ∷ xs) (y ∷ ys) g h b zero = (h, refl, b.2)
  beside-set (suc m) (x ∷ xs) (y ∷ ys) g h b (suc j) = (b.0, b.1, beside-set m xs ys g h b.2 j)

  -- one more
  pub beside-more : (m : ℕ) (xs ys : List Frame) (g : Frame) → g.function < n → Beside k n m xs ys → Beside k n (suc m) (set xs m g) (set ys m (shift_frame k g))
  unfolding Beside
  beside-more zero [] [] g h b = tt
  beside-more zero [] (y ∷ ys) g h b = absurd (omega arith)
  beside-more zero (x ∷ xs) [] g h b = absurd (omega arith)
  beside-more zero (x ∷ xs) (y ∷ ys) g h b = (h, refl, omega arith)
  beside-more (suc m) [] [] g h b = tt
  beside-more (suc m) [] (y ∷ ys) g h b = absurd b
  beside-more (suc m) (x ∷ xs) [] g h b = absurd b
  beside-more (suc m) (x ∷ xs) (y ∷ ys) g h b = (b.0, b.1, beside-more m xs ys g h b.2)

  -- fewer
  pub beside-less : (m l : ℕ) (xs ys : List Frame) → l ≤ m → Beside k n m xs ys → Beside k n l xs ys
  unfolding Beside
  beside-less m zero xs ys h b = beside-length m xs ys b
  beside-less zero (suc l) xs ys h b = absurd (not-suc-le-zero h)
  beside-less (suc m) (suc l) [] [] h b = tt
  beside-less (suc m) (suc l) [] (y ∷ ys) h b = absurd b
  beside-less (suc m) (suc l) (x ∷ xs) [] h b = absurd b
  beside-less (suc m) (suc l) (x ∷ xs) (y ∷ ys) h b = (b.0, b.1, beside-less m l xs ys (le_of_suc-le-suc h) b.2)

  -- a test that does not look at the function
  pub beside-any : (p : Frame → Bool) → ((x : Frame) → p (shift_frame k x) ≡ p x) → (m : ℕ) (xs ys : List Frame) → Beside k n m xs ys → any p (take m ys) ≡ any p (take m xs)
  unfolding Beside any
  beside-any p e zero [] [] b = refl
  beside-any p e zero [] (y ∷ ys) b = refl
  beside-any p e zero (x ∷ xs) [] b = refl
  beside-any p e zero (x ∷ xs) (y ∷ ys) b = refl
  beside-any p e (suc m) [] [] b = refl
  beside-any p e (suc m) [] (y ∷ ys) b = absurd b
  beside-any p e (suc m) (x ∷ xs) [] b = absurd b
  beside-any p e (suc m) (x ∷ xs) (y ∷ ys) b = rw (b.1, e x, beside-any p e m xs ys b.2) refl
