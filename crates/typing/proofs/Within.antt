-- "Within", by the kind on its right.
use mathlib.Core.Path.{◌≡◌, refl}
use mathlib.Core.Bool.{Bool, true, false, ◌&&◌, ◌||◌}
use Prim.Native.Nat.{ℕ}
use lib.Dec.{eqb}
use borrow.Author.Tests.{ne_eqb}
use Rattle.rules.specs.Types.{within}

pub within-any : (a : ℕ) {b : ℕ} → b ≡ 0 → true ≡ within a b
unfolding within
within-any a e = rw e (go (eqb a 0) (eqb a 2 || eqb a 3) (eqb a 4))
  where
    go : (c d f : Bool) → true ≡ (c || true || (d && false) || (f && false))
    go true d f = refl
    go false d f = refl

pub within-value : (a : ℕ) {b : ℕ} → b ≡ 1 → (a ≡ 1 → ⊥) → (a ≡ 2 → ⊥) → eqb a 3 ≡ within a b
unfolding within
within-value a e x y = rw (e, ne_eqb a 1 x, ne_eqb a 2 y) (go (eqb a 3) (eqb a 4))
  where
    go : (c d : Bool) → c ≡ (c && true || (d && false))
    go true d = refl
    go false true = refl
    go false false = refl

pub within-promise : (a : ℕ) {b : ℕ} → b ≡ 5 → (a ≡ 5 → ⊥) → eqb a 4 ≡ within a b
unfolding within
within-promise a e x = rw (e, ne_eqb a 5 x) (go (eqb a 2) (eqb a 3) (eqb a 4))
  where
    go : (c d f : Bool) → f ≡ (((c || d) && false) || (f && true))
    go true d true = refl
    go true d false = refl
    go false true true = refl
    go false true false = refl
    go false false true = refl
    go false false false = refl

pub within-other : (a : ℕ) {b : ℕ} → (b ≡ 0 → ⊥) → (b ≡ 1 → ⊥) → (b ≡ 5 → ⊥) → eqb a b ≡ within a b
unfolding within
within-other a {b} x y z = rw (ne_eqb b 0 x, ne_eqb b 1 y, ne_eqb b 5 z) (go (eqb a b) (eqb a 2) (eqb a 3) (eqb a 4))
  where
    go : (c d f g : Bool) → c ≡ (c || false || ((d || f) && false) || (g && false))
    go true d f g = refl
    go false true f true = refl
    go false true f false = refl
    go false false true true = refl
    go false false true false = refl
    go false false false true = refl
    go false false false false = refl
