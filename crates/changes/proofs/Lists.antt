-- Tests of lists by a rule: none passes, or one does; all pass, or one does not.
use mathlib.Core.Path.{◌≡◌, refl}
use mathlib.Core.Bool.{Bool, true, false, ◌||◌, ◌&&◌}
use mathlib.Core.List.{List, [], ◌∷◌}
use Prim.Native.Nat.{ℕ, zero, suc, ◌+◌, ◌≤◌, ◌<◌}
use native.Mathlib.Omega.{arith}
use lib.Dec.{eqb}
use lib.Pointwise.{pointwise}
use borrow.Author.Tests.{eqb-true, eqb-false}
use Rattle.layout.specs.Tests.{◌and◌, all, any}
use Rattle.machine.specs.Changes.{same_bytes}
use Rattle.store.specs.Lists.{up_to}

pub any-up_to-none : {A : Type 0} (p : A → Bool) (f : ℕ → A) (i n : ℕ) → ((j : ℕ) → i ≤ j → j < i + n → p (f j) ≡ false) → any p (up_to f i n) ≡ false
unfolding any up_to
any-up_to-none p f i zero h = refl
any-up_to-none p f i (suc n) h = rw (h i (omega arith) (omega arith), any-up_to-none p f (suc i) n (λ j a b. h j (omega arith) (omega arith))) refl

pub any-up_to-some : {A : Type 0} (p : A → Bool) (f : ℕ → A) (i n j : ℕ) → i ≤ j → j < i + n → p (f j) ≡ true → any p (up_to f i n) ≡ true
unfolding any up_to
any-up_to-some p f i zero j a b e = absurd (omega arith)
any-up_to-some p f i (suc n) j a b e = go (eqb i j) refl (p (f i)) refl (any-up_to-some p f (suc i) n j)
  where
    go : (c : Bool) → eqb i j ≡ c → (t : Bool) → p (f i) ≡ t → (suc i ≤ j → j < suc i + n → p (f j) ≡ true → any p (up_to f (suc i) n) ≡ true) → (p (f i) || any p (up_to f (suc i) n)) ≡ true
    go true q t r ih = rw (eqb-true i j q, e) refl
    go false q true r ih = rw r refl
    go false q false r ih = rw (r, ih (let n : i ≡ j → ⊥ = eqb-false i j q in omega arith) (omega arith) e) refl

pub any-up_to-same : {A B : Type 0} (p : A → Bool) (q : B → Bool) (f : ℕ → A) (g : ℕ → B) (i n : ℕ) → ((j : ℕ) → i ≤ j → j < i + n → p (f j) ≡ q (g j)) → any p (up_to f i n) ≡ any q (up_to g i n)
unfolding any up_to
any-up_to-same p q f g i zero h = refl
any-up_to-same p q f g i (suc n) h = rw (h i (omega arith) (omega arith), any-up_to-same p q f g (suc i) n (λ j a b. h j (omega arith) (omega arith))) refl

pub all-up_to : {A : Type 0} (p : A → Bool) (f : ℕ → A) (i n : ℕ) → ((j : ℕ) → i ≤ j → j < i + n → p (f j) ≡ true) → all p (up_to f i n) ≡ true
unfolding all up_to ◌and◌
all-up_to p f i zero h = refl
all-up_to p f i (suc n) h = rw (h i (omega arith) (omega arith), all-up_to p f (suc i) n (λ j a b. h j (omega arith) (omega arith))) refl

pub all-up_to-not : {A : Type 0} (p : A → Bool) (f : ℕ → A) (i n j : ℕ) → i ≤ j → j < i + n → p (f j) ≡ false → all p (up_to f i n) ≡ false
unfolding all up_to ◌and◌
all-up_to-not p f i zero j a b e = absurd (omega arith)
all-up_to-not p f i (suc n) j a b e = go (eqb i j) refl (p (f i)) refl (all-up_to-not p f (suc i) n j)
  where
    go : (c : Bool) → eqb i j ≡ c → (t : Bool) → p (f i) ≡ t → (suc i ≤ j → j < suc i + n → p (f j) ≡ false → all p (up_to f (suc i) n) ≡ false) → (p (f i) and all p (up_to f (suc i) n)) ≡ false
    go true q t r ih = rw (eqb-true i j q, e) refl
    go false q false r ih = rw r refl
    go false q true r ih = rw (r, ih (let n : i ≡ j → ⊥ = eqb-false i j q in omega arith) (omega arith) e) refl

pub all-up_to-same : {A B : Type 0} (p : A → Bool) (q : B → Bool) (f : ℕ → A) (g : ℕ → B) (i n : ℕ) → ((j : ℕ) → i ≤ j → j < i + n → p (f j) ≡ q (g j)) → all p (up_to f i n) ≡ all q (up_to g i n)
unfolding all up_to
all-up_to-same p q f g i zero h = refl
all-up_to-same p q f g i (suc n) h = rw (h i (omega arith) (omega arith), all-up_to-same p q f g (suc i) n (λ j a b. h j (omega arith) (omega arith))) refl

-- the test of two lists by std is that of their bytes
pub same-by : (xs ys : List ℕ) → pointwise eqb xs ys ≡ same_bytes xs ys
unfolding same_bytes ◌and◌
same-by [] [] = refl
same-by [] (y ∷ ys) = refl
same-by (x ∷ xs) [] = refl
same-by (x ∷ xs) (y ∷ ys) = go (eqb x y) (same-by xs ys)
  where
    go : (b : Bool) {u v : Bool} → u ≡ v → (b && u) ≡ (b and v)
    go true e = e
    go false e = refl
