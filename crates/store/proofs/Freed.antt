-- The lowest free place.
use Rattle.std.specs.Prelude.{None, Some}
use mathlib.Core.Path.{◌≡◌, sym, ◌∙◌}
use mathlib.Core.List.{List}
use mathlib.Core.Bool.{Bool, true, false}
use Prim.Native.Nat.{ℕ, ◌+◌, ◌-◌, ◌≤◌, ◌<◌}
use Rattle.machine.specs.States.{free}
use Rattle.machine.specs.declared.End.{End}
use Rattle.store.proofs.Free.{free_on, free-here, free-none}
use Rattle.store.specs.Counts.{Frees, taken}

-- the search has come to the place i
abbrev pub Searched : List ℕ → ℕ → ℕ → ℕ → Type 0
Searched c a b i = (e : End) → free e (λ j. taken c (a + j) (b + j)) 64 0 ≡ free e (λ j. taken c (a + j) (b + j)) (64 - i) i

module _ (c : List ℕ) (a b i : ℕ) where
  pub search-on : {t : Bool} → i < 64 → Searched c a b i → t ≡ taken c (a + i) (b + i) → t ≡ true → Searched c a b (i + 1)
  search-on h S e q x = S x ∙ free_on x (λ j. taken c (a + j) (b + j)) 64 i h (sym e ∙ q)

  pub search-found : {t : Bool} → i < 64 → Searched c a b i → t ≡ taken c (a + i) (b + i) → t ≡ false → Frees (Some i) c a b
  unfolding Frees
  search-found h S e q = (λ x. S x ∙ free-here x (λ j. taken c (a + j) (b + j)) 64 i h (sym e ∙ q), h)

  pub search-over : 64 ≤ i → Searched c a b i → Frees None c a b
  unfolding Frees
  search-over h S x = S x ∙ free-none x (λ j. taken c (a + j) (b + j)) 64 i h
