-- The search for the lowest place that does not count.
use mathlib.Core.Path.{◌≡◌, refl, ap, ◌∙◌}
use mathlib.Core.Bool.{Bool, true, false}
use Prim.Native.Nat.{ℕ, zero, suc, ◌+◌, ◌-◌, ◌≤◌, ◌<◌}
use native.Mathlib.Omega.{arith}
use Rattle.machine.specs.Try.{Try, got, stop}
use Rattle.machine.specs.States.{free}
use Rattle.machine.specs.declared.End.{End}

-- one more place to try
module _ (e : End) (counts : ℕ → Bool) (n p : ℕ) where
  tried-on : counts p ≡ true → free e counts (suc n) p ≡ free e counts n (suc p)
  unfolding free
  tried-on h = rw (h, free) refl

  tried_here : counts p ≡ false → free e counts (suc n) p ≡ got p
  unfolding free
  tried_here h = rw (h, free) refl

-- of n places, from p on
module _ (e : End) (counts : ℕ → Bool) (n p : ℕ) where
  pub free_on : p < n → counts p ≡ true → free e counts (n - p) p ≡ free e counts (n - (p + 1)) (p + 1)
  free_on h t =
      let s : n - p ≡ suc (n - (p + 1)) = omega arith in
      let r : suc p ≡ p + 1 = omega arith in
      ap (λ i. free e counts i p) s ∙ tried-on e counts (n - (p + 1)) p t ∙ ap (free e counts (n - (p + 1))) r

  pub free-here : p < n → counts p ≡ false → free e counts (n - p) p ≡ got p
  free-here h t =
      let s : n - p ≡ suc (n - (p + 1)) = omega arith in
      ap (λ i. free e counts i p) s ∙ tried_here e counts (n - (p + 1)) p t

  pub free-none : n ≤ p → free e counts (n - p) p ≡ stop e
  unfolding free
  free-none h = let s : n - p ≡ 0 = omega arith in rw s refl

-- two tests that agree
pub free-same : (e : End) (f g : ℕ → Bool) (n i : ℕ) → ((j : ℕ) → j < i + n → f j ≡ g j) → free e f n i ≡ free e g n i
unfolding free
free-same e f g zero i h = refl
free-same e f g (suc n) i h = go (f i) (g i) (h i (omega arith)) (free-same e f g n (suc i) (λ j b. h j (omega arith)))
  where
    go : (s t : Bool) → s ≡ t → free e f n (suc i) ≡ free e g n (suc i) → ◌≡◌ {A = Try ℕ} (elim s [ true ↦ free e f n (suc i) | false ↦ got i ])
        (elim t [ true ↦ free e g n (suc i) | false ↦ got i ])
    go true true q ih = ih
    go true false q ih = cc
    go false true q ih = cc
    go false false q ih = refl
