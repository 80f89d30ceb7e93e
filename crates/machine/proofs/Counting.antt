-- How many of some places count.
use mathlib.Core.Path.{◌≡◌, refl}
use mathlib.Core.Bool.{Bool, true, false, cond}
use Prim.Native.Nat.{ℕ, zero, suc, ◌+◌, ◌≤◌, ◌<◌}
use native.Mathlib.Omega.{arith}
use Rattle.machine.specs.Try.{Try, got, stop}
use Rattle.machine.specs.States.{free}
use Rattle.machine.specs.Allowed.{counting}
use Rattle.machine.specs.declared.End.{End}

-- no more than there are
pub counting-most : (c : ℕ → Bool) (n i : ℕ) → counting c n i ≤ n
unfolding counting
counting-most c zero i = omega arith
counting-most c (suc n) i = go (c i) (counting-most c n (suc i))
  where
    go : (x : Bool) → counting c n (suc i) ≤ n → cond x 1 0 + counting c n (suc i) ≤ suc n
    go true l = omega arith
    go false l = omega arith

-- where all count none is free
pub all-count : (e : End) (c : ℕ → Bool) (n i : ℕ) → n ≤ counting c n i → free e c n i ≡ stop e
unfolding counting free
all-count e c zero i h = refl
all-count e c (suc n) i h = go (c i) refl h (all-count e c n (suc i))
  where
    go : (x : Bool) → c i ≡ x → suc n ≤ cond x 1 0 + counting c n (suc i) → (n ≤ counting c n (suc i) → free e c n (suc i) ≡ stop e) → ◌≡◌ {A = Try ℕ} (elim x [ true ↦ free e c n (suc i) | false ↦ got i ]) (stop e)
    go true p l ih = ih (omega arith)
    go false p l ih = absurd (omega (arith, counting-most c n (suc i)))

-- two tests that agree
pub counting-same : (c d : ℕ → Bool) (n i : ℕ) → ((j : ℕ) → j < i + n → c j ≡ d j) → counting c n i ≡ counting d n i
unfolding counting
counting-same c d zero i h = refl
counting-same c d (suc n) i h = rw (h i (omega arith), counting-same c d n (suc i) (λ j l. h j (omega arith))) refl
