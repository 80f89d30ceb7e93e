-- Lists by a rule: what stands at a place, and what a write makes of them.
use mathlib.Core.Path.{◌≡◌, refl, sym, ap, ◌∙◌}
use mathlib.Core.List.{◌∷◌}
use mathlib.Core.Option.{none, some}
use Prim.Native.Nat.{ℕ, zero, suc, ◌+◌, ◌≤◌, ◌<◌}
use native.Mathlib.Nat.{not-suc-le-zero, le_of_suc-le-suc}
use native.Mathlib.Omega.{arith}
use lib.ListN.{length, get_or, get_elem?, set, take}
use Rattle.store.specs.Lists.{up_to}

-- ---- from any number on

pub length_from : {A : Type 0} (f : ℕ → A) (i n : ℕ) → length (up_to f i n) ≡ n
unfolding up_to
length_from f i zero = refl
length_from f i (suc n) = ap suc (length_from f (suc i) n)

pub get_from : {A : Type 0} (f : ℕ → A) (i n k : ℕ) → k < n → get_elem? (up_to f i n) k ≡ some (f (i + k))
unfolding up_to
get_from f i zero k h = absurd (not-suc-le-zero h)
get_from f i (suc n) zero h = let e : i ≡ i + 0 = omega arith in ap (λ m. some (f m)) e
get_from f i (suc n) (suc k) h = let e : suc i + k ≡ i + suc k = omega arith in get_from f (suc i) n k (le_of_suc-le-suc h) ∙ ap (λ m. some (f m)) e

pub missing-from : {A : Type 0} (f : ℕ → A) (i n k : ℕ) → n ≤ k → get_elem? (up_to f i n) k ≡ none
unfolding up_to
missing-from f i zero k h = refl
missing-from f i (suc n) zero h = absurd (not-suc-le-zero h)
missing-from f i (suc n) (suc k) h = missing-from f (suc i) n k (le_of_suc-le-suc h)

pub get_or-from : {A : Type 0} (f : ℕ → A) (i n k : ℕ) (d : A) → k < n → get_or (up_to f i n) k d ≡ f (i + k)
unfolding up_to
get_or-from f i zero k d h = absurd (not-suc-le-zero h)
get_or-from f i (suc n) zero d h = let e : i ≡ i + 0 = omega arith in ap f e
get_or-from f i (suc n) (suc k) d h = let e : suc i + k ≡ i + suc k = omega arith in get_or-from f (suc i) n k d (le_of_suc-le-suc h) ∙ ap f e

pub take-from : {A : Type 0} (f : ℕ → A) (i n m : ℕ) → m ≤ n → take m (up_to f i n) ≡ up_to f i m
unfolding up_to
take-from f i zero zero h = refl
take-from f i zero (suc m) h = absurd (not-suc-le-zero h)
take-from f i (suc n) zero h = refl
take-from f i (suc n) (suc m) h = ap (λ l. f i ∷ l) (take-from f (suc i) n m (le_of_suc-le-suc h))

pub take-all-from : {A : Type 0} (f : ℕ → A) (i n m : ℕ) → n ≤ m → take m (up_to f i n) ≡ up_to f i n
unfolding up_to
take-all-from f i zero zero h = refl
take-all-from f i zero (suc m) h = refl
take-all-from f i (suc n) zero h = absurd (not-suc-le-zero h)
take-all-from f i (suc n) (suc m) h = ap (λ l. f i ∷ l) (take-all-from f (suc i) n m (le_of_suc-le-suc h))

-- two rules that agree
pub up_to-same : {A : Type 0} (f g : ℕ → A) (i n : ℕ) → ((j : ℕ) → i ≤ j → j < i + n → f j ≡ g j) → up_to f i n ≡ up_to g i n
unfolding up_to
up_to-same f g i zero h = refl
up_to-same f g i (suc n) h = rw (h i (omega arith) (omega arith), up_to-same f g (suc i) n (λ j a b. h j (omega arith) (omega arith))) refl

-- a write at a place, and a rule that tells it and agrees elsewhere
set-from : {A : Type 0} (f g : ℕ → A) (i n k : ℕ) (x : A) → g (i + k) ≡ x → ((j : ℕ) → i ≤ j → j < i + n → (j ≡ i + k → ⊥) → g j ≡ f j) → set (up_to f i n) k x ≡ up_to g i n
unfolding up_to
set-from f g i zero k x e h = refl
set-from f g i (suc n) zero x e h =
    let z : i + 0 ≡ i = omega arith in
    rw (up_to-same f g (suc i) n (λ j a b. sym (h j (omega arith) (omega arith) (λ q. omega arith))), ← e, z) refl
set-from f g i (suc n) (suc k) x e h =
    let z : i + suc k ≡ suc i + k = omega arith in
    rw (h i (omega arith) (omega arith) (λ q. omega arith), set-from f g (suc i) n k x (rw z at e) (λ j a b q. h j (omega arith) (omega arith) (λ r. q (omega arith)))) refl

-- ---- from 0 on

pub length-up_to : {A : Type 0} (f : ℕ → A) (n : ℕ) → length (up_to f 0 n) ≡ n
length-up_to f n = length_from f 0 n

pub get_elem?-up_to : {A : Type 0} (f : ℕ → A) (n i : ℕ) → i < n → get_elem? (up_to f 0 n) i ≡ some (f i)
get_elem?-up_to f n i h = let e : 0 + i ≡ i = omega arith in get_from f 0 n i h ∙ ap (λ m. some (f m)) e

pub missing-up_to : {A : Type 0} (f : ℕ → A) (n i : ℕ) → n ≤ i → get_elem? (up_to f 0 n) i ≡ none
missing-up_to f n i h = missing-from f 0 n i h

pub get_or-up_to : {A : Type 0} (f : ℕ → A) (n i : ℕ) (d : A) → i < n → get_or (up_to f 0 n) i d ≡ f i
get_or-up_to f n i d h = let e : 0 + i ≡ i = omega arith in get_or-from f 0 n i d h ∙ ap f e

pub take-up_to : {A : Type 0} (f : ℕ → A) (n m : ℕ) → m ≤ n → take m (up_to f 0 n) ≡ up_to f 0 m
take-up_to f n m h = take-from f 0 n m h

pub take-all-up_to : {A : Type 0} (f : ℕ → A) (n m : ℕ) → n ≤ m → take m (up_to f 0 n) ≡ up_to f 0 n
take-all-up_to f n m h = take-all-from f 0 n m h

pub set-up_to-by : {A : Type 0} (f g : ℕ → A) (n i : ℕ) (x : A) → g i ≡ x → ((j : ℕ) → j < n → (j ≡ i → ⊥) → g j ≡ f j) → set (up_to f 0 n) i x ≡ up_to g 0 n
set-up_to-by f g n i x e h =
    let z : 0 + i ≡ i = omega arith in
    set-from f g 0 n i x (rw z e) (λ j a b q. h j (omega arith) (λ r. q (omega arith)))
