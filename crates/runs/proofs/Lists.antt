-- Lists: look-ups by number, tests of all and of some, what passes only once.
use mathlib.Core.Path.{◌≡◌, refl, ap}
use mathlib.Core.Logic.{◌⊎◌, inl, inr}
use mathlib.Core.List.{List, [], ◌∷◌, map}
use mathlib.Core.Option.{some}
use mathlib.Core.Bool.{Bool, true, false, cond, ◌||◌, false≢true}
use Prim.Native.Nat.{ℕ, zero, suc, ◌+◌}
use native.Mathlib.Omega.{arith}
use lib.ListN.{get_elem?}
use Rattle.layout.specs.Tests.{◌and◌, all, any, count}
use Rattle.layout.proofs.Bools.{and_both}
use Rattle.rules.proofs.Follows.{or-either, or_left}

-- ---- tests of all and of some

pub any_at : {A : Type 0} (p : A → Bool) (l : List A) (i : ℕ) (x : A) → get_elem? l i ≡ some x → p x ≡ true → any p l ≡ true
unfolding any
any_at p [] i x h e = let z : ◌≡◌ {A = ℕ} 0 1 = cc in absurd (omega arith)
any_at p (y ∷ l) zero x h e = let q : y ≡ x = cc in or_left {a = p y} (any p l) (rw q e)
any_at p (y ∷ l) (suc i) x h e = go (p y) (any_at p l i x h e)
  where
    go : (b : Bool) → any p l ≡ true → (b || any p l) ≡ true
    go true r = refl
    go false r = r

pub any-find : {A : Type 0} (p : A → Bool) (l : List A) → any p l ≡ true → (i : ℕ) × (x : A) × (get_elem? l i ≡ some x) × (p x ≡ true)
unfolding any
any-find p [] h = absurd (false≢true h)
any-find {A} p (y ∷ l) h = go (or-either (p y) (any p l) h) (any-find p l)
  where
    go : (p y ≡ true) ⊎ (any p l ≡ true) → (any p l ≡ true → (i : ℕ) × (x : A) × (get_elem? l i ≡ some x) × (p x ≡ true)) → (i : ℕ) × (x : A) × (get_elem? (y ∷ l) i ≡ some x) × (p x ≡ true)
    go (inl e) ih = (0, y, refl, e)
    go (inr e) ih = let t = ih e in (suc t.0, t.1, t.2, t.3)

pub all-at : {A : Type 0} (p : A → Bool) (l : List A) → all p l ≡ true → (i : ℕ) (x : A) → get_elem? l i ≡ some x → p x ≡ true
unfolding all
all-at p [] h i x e = let z : ◌≡◌ {A = ℕ} 0 1 = cc in absurd (omega arith)
all-at p (y ∷ l) h zero x e = let q : y ≡ x = cc in rw (← q) (and_both _ _ h).0
all-at p (y ∷ l) h (suc i) x e = all-at p l (and_both _ _ h).1 i x e

-- ---- lists made of others, and what passes only once

pub get-map : {A B : Type 0} (f : A → B) (l : List A) (i : ℕ) (y : B) → get_elem? (map f l) i ≡ some y → (x : A) × (get_elem? l i ≡ some x) × (f x ≡ y)
get-map f [] i y e = let z : ◌≡◌ {A = ℕ} 0 1 = cc in absurd (omega arith)
get-map f (x ∷ l) zero y e = (x, refl, cc)
get-map f (x ∷ l) (suc i) y e = get-map f l i y e

pub map_get : {A B : Type 0} (f : A → B) (l : List A) (i : ℕ) (x : A) → get_elem? l i ≡ some x → get_elem? (map f l) i ≡ some (f x)
map_get f [] i x e = let z : ◌≡◌ {A = ℕ} 0 1 = cc in absurd (omega arith)
map_get f (y ∷ l) zero x e = let q : y ≡ x = cc in ap (λ z. some (f z)) q
map_get f (y ∷ l) (suc i) x e = map_get f l i x e

pub none-counted : {A : Type 0} (p : A → Bool) (l : List A) → count p l ≡ 0 → (i : ℕ) (x : A) → get_elem? l i ≡ some x → p x ≡ true → ⊥
unfolding count
none-counted p [] h i x e q = let z : ◌≡◌ {A = ℕ} 0 1 = cc in omega arith
none-counted p (y ∷ l) h zero x e q = let g : y ≡ x = cc in let n : p y ≡ true = rw g q in let m : 1 + count p l ≡ 0 = rw n at h in omega arith
none-counted p (y ∷ l) h (suc i) x e q = go (p y) h (λ g. none-counted p l g i x e q)
  where
    go : (b : Bool) → cond b 1 0 + count p l ≡ 0 → (count p l ≡ 0 → ⊥) → ⊥
    go true g ih = omega arith
    go false g ih = ih (omega arith)

-- what passes only once stands at one place
pub counted-once : {A : Type 0} (p : A → Bool) (l : List A) → count p l ≡ 1 → (i : ℕ) (x : A) → get_elem? l i ≡ some x → p x ≡ true → (j : ℕ) (y : A) → get_elem? l j ≡ some y → p y ≡ true → j ≡ i
unfolding count
counted-once p [] h i x e q j y f g = let z : ◌≡◌ {A = ℕ} 0 1 = cc in absurd (omega arith)
counted-once p (z ∷ l) h zero x e q zero y f g = refl
counted-once p (z ∷ l) h zero x e q (suc j) y f g = let n : p z ≡ true = rw (let w : z ≡ x = cc in w) q in let m : 1 + count p l ≡ 1 = rw n at h in absurd (none-counted p l (omega arith) j y f g)
counted-once p (z ∷ l) h (suc i) x e q zero y f g = let n : p z ≡ true = rw (let w : z ≡ y = cc in w) g in let m : 1 + count p l ≡ 1 = rw n at h in absurd (none-counted p l (omega arith) i x e q)
counted-once p (z ∷ l) h (suc i) x e q (suc j) y f g = ap suc (go (p z) h (λ m. counted-once p l m i x e q j y f g))
  where
    go : (b : Bool) → cond b 1 0 + count p l ≡ 1 → (count p l ≡ 1 → j ≡ i) → j ≡ i
    go true m ih = absurd (none-counted p l (omega arith) i x e q)
    go false m ih = ih (omega arith)
