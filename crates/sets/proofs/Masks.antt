-- A mask is a set: the operations on masks of k digits, for any k, are those on sets of k registers.
use mathlib.Core.Path.{◌≡◌, refl, sym, ap, ap₂, ◌∙◌}
use mathlib.Core.List.{◌∷◌, map}
use mathlib.Core.Bool.{Bool, true, false, cond, not, ◌&&◌, ◌||◌}
use Prim.Native.Nat.{ℕ, zero, suc, ◌+◌, ◌-◌, ◌/◌, ◌%◌, ◌^◌, ◌≤◌, ◌<◌}
use native.Mathlib.Nat.{pow-suc, pow-succ', div-one, zero-div, div-div-eq-div-mul}
use native.Mathlib.Omega.{arith}
use lib.Dec.{eqb}
use lib.ListN.{drop}
use lib.Pow.{pow_pos}
use lib.Bits.{bit_and, bit_or, or_shr, or_mod, and_shr, and_mod, and_le_l}
use lib.Count.{ones, ones_in, ones_step}
use borrow.Author.Tests.{eq-eqb, ne_eqb, eqb-true, eqb-false}
use Rattle.sets.specs.Sets.{Set, has, empty, only, both, ◌∖◌, inhabited, size, set_of}

-- ---- digits

-- a digit is its own test
digit : (m : ℕ) → cond (eqb (m % 2) 1) 1 0 ≡ m % 2
digit m = go (eqb (m % 2) 1) refl
  where
    go : (b : Bool) → eqb (m % 2) 1 ≡ b → cond b 1 0 ≡ m % 2
    go true e = sym (eqb-true (m % 2) 1 e)
    go false e = omega (arith, eqb-false (m % 2) 1 e)

half : (k m : ℕ) → m < 2 ^ suc k → m / 2 < 2 ^ k
half k m h = omega (arith, rw (pow-suc 2 k) at h)

-- a set has one mask
pub mask-unique : (k a b : ℕ) → a < 2 ^ k → b < 2 ^ k → set_of k a ≡ set_of k b → a ≡ b
unfolding set_of
mask-unique zero a b ha hb e = omega arith
mask-unique (suc k) a b ha hb e =
    let first : eqb (a % 2) 1 ≡ eqb (b % 2) 1 = cc in
    let low : ◌≡◌ {A = ℕ} (cond (eqb (a % 2) 1) 1 0) (cond (eqb (b % 2) 1) 1 0) = ap (λ (x : Bool). cond x 1 0) first in
    omega (arith, mask-unique k (a / 2) (b / 2) (half k a ha) (half k b hb) (cc), digit a, digit b, low)

-- ---- register by register

-- THE LAW: an operation that goes digit by digit is the operation on sets
module _ (op : ℕ → ℕ → ℕ) (f : Bool → Bool → Bool)
    (high : (a b : ℕ) → op a b / 2 ≡ op (a / 2) (b / 2))
    (low : (a b : ℕ) → eqb (op a b % 2) 1 ≡ f (eqb (a % 2) 1) (eqb (b % 2) 1)) where
  digitwise : (k a b : ℕ) → set_of k (op a b) ≡ both f (set_of k a) (set_of k b)
  unfolding set_of both
  digitwise zero a b = refl
  digitwise (suc k) a b = ap₂ ◌∷◌ (low a b) (ap (set_of k) (high a b) ∙ digitwise k (a / 2) (b / 2))

-- two digits decide a digit of the result
by_digits : (op : ℕ → ℕ → ℕ) (f : Bool → Bool → Bool)
    → (eqb (op 0 0) 1 ≡ f false false) × (eqb (op 0 1) 1 ≡ f false true) × (eqb (op 1 0) 1 ≡ f true false) × (eqb (op 1 1) 1 ≡ f true true)
    → (x y : ℕ) → x < 2 → y < 2 → eqb (op x y) 1 ≡ f (eqb x 1) (eqb y 1)
by_digits op f h zero zero hx hy = h.0
by_digits op f h zero (suc zero) hx hy = h.1
by_digits op f h (suc zero) zero hx hy = h.2
by_digits op f h (suc zero) (suc zero) hx hy = h.3
by_digits op f h zero (suc (suc y)) hx hy = absurd (omega arith)
by_digits op f h (suc zero) (suc (suc y)) hx hy = absurd (omega arith)
by_digits op f h (suc (suc x)) y hx hy = absurd (omega arith)

pub set-or : (k a b : ℕ) → set_of k (bit_or a b) ≡ both ◌||◌ (set_of k a) (set_of k b)
set-or = digitwise bit_or ◌||◌ (λ a b. or_shr a b 1) (λ a b. ap (λ (n : ℕ). eqb n 1) (or_mod a b 1) ∙ by_digits bit_or ◌||◌ (refl, refl, refl, refl) (a % 2) (b % 2) (omega arith) (omega arith))

pub set-and : (k a b : ℕ) → set_of k (bit_and a b) ≡ both ◌&&◌ (set_of k a) (set_of k b)
set-and = digitwise bit_and ◌&&◌ (λ a b. and_shr a b 1) (λ a b. ap (λ (n : ℕ). eqb n 1) (and_mod a b 1) ∙ by_digits bit_and ◌&&◌ (refl, refl, refl, refl) (a % 2) (b % 2) (omega arith) (omega arith))

-- all but the members
not_digit : (m n : ℕ) → n % 2 + m % 2 ≡ 1 → eqb (n % 2) 1 ≡ not (eqb (m % 2) 1)
not_digit m n h = go (eqb (m % 2) 1) refl
  where
    go : (b : Bool) → eqb (m % 2) 1 ≡ b → eqb (n % 2) 1 ≡ not b
    go true e = ne_eqb (n % 2) 1 (omega (arith, eqb-true (m % 2) 1 e))
    go false e = eq-eqb (n % 2) 1 (omega (arith, eqb-false (m % 2) 1 e))

set-not : (k b : ℕ) → b < 2 ^ k → set_of k (2 ^ k - 1 - b) ≡ map not (set_of k b)
unfolding set_of
set-not zero b h = refl
set-not (suc k) b h = ap₂ ◌∷◌ (not_digit b (2 ^ suc k - 1 - b) (omega (arith, pow-suc 2 k, pow_pos k))) (ap (set_of k) halves ∙ set-not k (b / 2) (half k b h))
  where
    halves : (2 ^ suc k - 1 - b) / 2 ≡ 2 ^ k - 1 - b / 2
    halves = omega (arith, pow-suc 2 k, pow_pos k)

and-not : (k a b : ℕ) → both ◌&&◌ (set_of k a) (map not (set_of k b)) ≡ set_of k a ∖ set_of k b
unfolding both set_of
and-not zero a b = refl
and-not (suc k) a b = ap (λ (l : Set). (eqb (a % 2) 1 && not (eqb (b % 2) 1)) ∷ l) (and-not k (a / 2) (b / 2))

pub set-minus : (k a b : ℕ) → b < 2 ^ k → set_of k (bit_and a (2 ^ k - 1 - b)) ≡ set_of k a ∖ set_of k b
set-minus k a b h = set-and k a (2 ^ k - 1 - b) ∙ ap (both ◌&&◌ (set_of k a)) (set-not k b h) ∙ and-not k a b

-- ---- tests and counts

-- none is in where the mask is 0
pub inhabited-mask : (k m : ℕ) → m < 2 ^ k → inhabited (set_of k m) ≡ not (eqb m 0)
unfolding inhabited set_of
inhabited-mask zero m h = simp (eq-eqb m 0 (omega arith))
inhabited-mask (suc k) m h = go (eqb (m % 2) 1) (eqb m 0) refl refl (inhabited-mask k (m / 2) (half k m h))
  where
    go : (a b : Bool) → eqb (m % 2) 1 ≡ a → eqb m 0 ≡ b → inhabited (set_of k (m / 2)) ≡ not (eqb (m / 2) 0) → (a || inhabited (set_of k (m / 2))) ≡ not b
    go true true ea eb r = absurd (omega (arith, eqb-true (m % 2) 1 ea, eqb-true m 0 eb))
    go true false ea eb r = refl
    go false true ea eb r = r ∙ ap not (eq-eqb (m / 2) 0 (omega (arith, eqb-true m 0 eb)))
    go false false ea eb r = r ∙ ap not (ne_eqb (m / 2) 0 (omega (arith, eqb-false (m % 2) 1 ea, eqb-false m 0 eb)))

pub meets-mask : (k a b : ℕ) → a < 2 ^ k → not (eqb (bit_and a b) 0) ≡ inhabited (both ◌&&◌ (set_of k a) (set_of k b))
meets-mask k a b h = sym (inhabited-mask k (bit_and a b) (omega (arith, and_le_l a b))) ∙ ap inhabited (set-and k a b)

halved : (m n : ℕ) → m / 2 / 2 ^ n ≡ m / 2 ^ suc n
halved m n = div-div-eq-div-mul m 2 (2 ^ n) ∙ ap (λ (x : ℕ). m / x) (sym (pow-succ' 2 n))

-- from register n on
pub inhabited-past : (n k m : ℕ) → m < 2 ^ k → inhabited (drop n (set_of k m)) ≡ not (eqb (m / 2 ^ n) 0)
unfolding set_of inhabited
inhabited-past zero k m h = inhabited-mask k m h ∙ ap (λ (x : ℕ). not (eqb x 0)) (sym (div-one m))
inhabited-past (suc n) zero m h = let e : m ≡ 0 = omega arith in simp (e, zero-div)
inhabited-past (suc n) (suc k) m h = inhabited-past n k (m / 2) (half k m h) ∙ ap (λ (x : ℕ). not (eqb x 0)) (halved m n)

pub inhabited-none : (n k m : ℕ) → k ≤ n → inhabited (drop n (set_of k m)) ≡ false
unfolding set_of inhabited
inhabited-none zero zero m h = refl
inhabited-none zero (suc k) m h = absurd (omega arith)
inhabited-none (suc n) zero m h = refl
inhabited-none (suc n) (suc k) m h = inhabited-none n k (m / 2) (omega arith)

pub size-mask : (k m : ℕ) → m < 2 ^ k → size (set_of k m) ≡ ones m
unfolding size set_of ones ones_in
size-mask zero m h = let e : 0 ≡ m = omega arith in ap ones e
size-mask (suc k) m h = omega (arith, digit m, ones_step m, size-mask k (m / 2) (half k m h))

-- ---- single registers

pub set-empty : (k : ℕ) → set_of k 0 ≡ empty k
unfolding set_of empty
set-empty zero = refl
set-empty (suc k) = ap (λ (l : Set). false ∷ l) (set-empty k)

pub set_single : (k r : ℕ) → r < k → set_of k (2 ^ r) ≡ only k r
unfolding set_of only
set_single zero r h = absurd (omega arith)
set_single (suc k) zero h = ap (λ (l : Set). true ∷ l) (set-empty k)
set_single (suc k) (suc r) h = ap₂ ◌∷◌ (ne_eqb (2 ^ suc r % 2) 1 (omega (arith, pow-suc 2 r))) (ap (set_of k) halves ∙ set_single k r (omega arith))
  where
    halves : 2 ^ suc r / 2 ≡ 2 ^ r
    halves = omega (arith, pow-suc 2 r)

pub only-outside : (k r : ℕ) → k ≤ r → only k r ≡ empty k
unfolding only empty
only-outside zero r h = refl
only-outside (suc k) zero h = absurd (omega arith)
only-outside (suc k) (suc r) h = ap (λ (l : Set). false ∷ l) (only-outside k r (omega arith))

pub has-digit : (k r m : ℕ) → r < k → has (set_of k m) r ≡ eqb (m / 2 ^ r % 2) 1
unfolding set_of has
has-digit zero r m h = absurd (omega arith)
has-digit (suc k) zero m h = ap (λ (x : ℕ). eqb (x % 2) 1) (sym (div-one m))
has-digit (suc k) (suc r) m h = has-digit k r (m / 2) (omega arith) ∙ ap (λ (x : ℕ). eqb (x % 2) 1) (halved m r)

pub has-outside : (k r m : ℕ) → k ≤ r → has (set_of k m) r ≡ false
unfolding set_of has
has-outside zero r m h = refl
has-outside (suc k) zero m h = absurd (omega arith)
has-outside (suc k) (suc r) m h = has-outside k r (m / 2) (omega arith)
