-- Lists: what stands at a place of a list, of its first or last ones, and of one with an element set.
use mathlib.Core.Path.{◌≡◌, refl, ap, subst}
use mathlib.Core.Logic.{◌≢◌}
use mathlib.Core.List.{List, [], ◌∷◌}
use mathlib.Core.Option.{none, some}
use Prim.Native.Nat.{ℕ, zero, suc, ◌≤◌, ◌<◌}
use native.Mathlib.Nat.{le_of_suc-le-suc, not-suc-le-zero}
use native.Mathlib.Omega.{arith}
use lib.ListN.{length, get_or, get_elem?, set, take, drop}

-- ---- inside and behind the end

pub get-some : {A : Type 0} (xs : List A) (i : ℕ) (d : A) → i < length xs → get_elem? xs i ≡ some (get_or xs i d)
get-some [] i d h = absurd (not-suc-le-zero h)
get-some (x ∷ xs) zero d h = refl
get-some (x ∷ xs) (suc i) d h = get-some xs i d (le_of_suc-le-suc h)

pub get_none : {A : Type 0} (xs : List A) (i : ℕ) → length xs ≤ i → get_elem? xs i ≡ none
get_none [] i h = refl
get_none (x ∷ xs) zero h = absurd (not-suc-le-zero h)
get_none (x ∷ xs) (suc i) h = get_none xs i (le_of_suc-le-suc h)

-- where something stands, and where nothing does
pub get_in : {A : Type 0} (xs : List A) (i : ℕ) (d x : A) → get_elem? xs i ≡ some x → (i < length xs) × (get_or xs i d ≡ x)
get_in [] i d x h = let z : ◌≡◌ {A = ℕ} 0 1 = cc in absurd (omega arith)
get_in (y ∷ xs) zero d x h = (omega arith, cc)
get_in (y ∷ xs) (suc i) d x h = let t = get_in xs i d x h in (omega (arith, t.0), t.1)

pub none-past : {A : Type 0} (xs : List A) (i : ℕ) → get_elem? xs i ≡ none → length xs ≤ i
none-past [] i e = omega arith
none-past (x ∷ xs) zero e = let z : ◌≡◌ {A = ℕ} 0 1 = cc in absurd (omega arith)
none-past (x ∷ xs) (suc i) e = omega (arith, none-past xs i e)

-- ---- the first n

pub get_take : {A : Type 0} (xs : List A) (n i : ℕ) → i < n → get_elem? (take n xs) i ≡ get_elem? xs i
get_take [] zero i h = refl
get_take [] (suc n) i h = refl
get_take (x ∷ xs) zero i h = absurd (not-suc-le-zero h)
get_take (x ∷ xs) (suc n) zero h = refl
get_take (x ∷ xs) (suc n) (suc i) h = get_take xs n i (le_of_suc-le-suc h)

pub take_none : {A : Type 0} (xs : List A) (n i : ℕ) → n ≤ i → get_elem? (take n xs) i ≡ none
take_none [] zero i h = refl
take_none [] (suc n) i h = refl
take_none (x ∷ xs) zero i h = refl
take_none (x ∷ xs) (suc n) zero h = absurd (not-suc-le-zero h)
take_none (x ∷ xs) (suc n) (suc i) h = take_none xs n i (le_of_suc-le-suc h)

pub take_in : {A : Type 0} (xs : List A) (n i : ℕ) (x : A) → get_elem? (take n xs) i ≡ some x → i < n
take_in [] zero i x h = let z : ◌≡◌ {A = ℕ} 0 1 = cc in absurd (omega arith)
take_in [] (suc n) i x h = let z : ◌≡◌ {A = ℕ} 0 1 = cc in absurd (omega arith)
take_in (y ∷ xs) zero i x h = let z : ◌≡◌ {A = ℕ} 0 1 = cc in absurd (omega arith)
take_in (y ∷ xs) (suc n) zero x h = omega arith
take_in (y ∷ xs) (suc n) (suc i) x h = omega (arith, take_in xs n i x h)

-- what is missing in a list is missing in its first ones
pub none-taken : {A : Type 0} (xs : List A) (n i : ℕ) → get_elem? xs i ≡ none → get_elem? (take n xs) i ≡ none
none-taken [] zero i h = refl
none-taken [] (suc n) i h = refl
none-taken (x ∷ xs) zero i h = refl
none-taken (x ∷ xs) (suc n) zero h = h
none-taken (x ∷ xs) (suc n) (suc i) h = none-taken xs n i h

-- ---- all but the first i

pub get_drop : {A : Type 0} (xs : List A) (i : ℕ) (x : A) → get_elem? xs i ≡ some x → drop i xs ≡ x ∷ drop (suc i) xs
get_drop [] i x h = let z : ◌≡◌ {A = ℕ} 0 1 = cc in absurd (omega arith)
get_drop (y ∷ xs) zero x h = let e : y ≡ x = cc in ap (λ z. z ∷ xs) e
get_drop (y ∷ xs) (suc i) x h = get_drop xs i x h

pub drop-end : {A : Type 0} (xs : List A) (i : ℕ) → get_elem? xs i ≡ none → drop i xs ≡ []
drop-end [] zero h = refl
drop-end [] (suc i) h = refl
drop-end (y ∷ xs) zero h = let z : ◌≡◌ {A = ℕ} 0 1 = cc in absurd (omega arith)
drop-end (y ∷ xs) (suc i) h = drop-end xs i h

-- ---- an element set

pub get-same : {A : Type 0} (xs : List A) (i : ℕ) (x : A) → i < length xs → get_elem? (set xs i x) i ≡ some x
get-same [] i x h = absurd (not-suc-le-zero h)
get-same (y ∷ xs) zero x h = refl
get-same (y ∷ xs) (suc i) x h = get-same xs i x (le_of_suc-le-suc h)

pub get_other : {A : Type 0} (xs : List A) (i j : ℕ) (x : A) → j ≢ i → get_elem? (set xs i x) j ≡ get_elem? xs j
get_other [] i j x n = refl
get_other (y ∷ xs) zero zero x n = absurd (n refl)
get_other (y ∷ xs) zero (suc j) x n = refl
get_other (y ∷ xs) (suc i) zero x n = refl
get_other (y ∷ xs) (suc i) (suc j) x n = get_other xs i j x (λ e. n (ap suc e))

-- ---- all of a list

-- what holds of each of a list
unfoldable pub Each : {A : Type 0} → (A → Type 0) → List A → Type 0
Each T [] = Unit {0}
Each T (x ∷ l) = T x × Each T l

pub each-get : {A : Type 0} (T : A → Type 0) (l : List A) (i : ℕ) (x : A) → Each T l → get_elem? l i ≡ some x → T x
unfolding Each
each-get T [] i x h e = let z : ◌≡◌ {A = ℕ} 0 1 = cc in absurd (omega arith)
each-get T (y ∷ l) zero x h e = let z : y ≡ x = cc in subst T z h.0
each-get T (y ∷ l) (suc i) x h e = each-get T l i x h.1 e

-- of two facts, and of one that follows
pub each_both : {A : Type 0} (T U : A → Type 0) (l : List A) → Each T l → Each U l → Each (λ (x : A). T x × U x) l
unfolding Each
each_both T U [] t u = tt
each_both T U (x ∷ l) t u = ((t.0, u.0), each_both T U l t.1 u.1)

pub each-then : {A : Type 0} (T U : A → Type 0) (l : List A) → ((x : A) → T x → U x) → Each T l → Each U l
unfolding Each
each-then T U [] f t = tt
each-then T U (x ∷ l) f t = (f x t.0, each-then T U l f t.1)
