-- Question 14: the ends that a mask stands for. All but `at_place` is for masks of any number of digits.
use mathlib.Core.Path.{◌≡◌, refl, sym, ap, ◌∙◌}
use mathlib.Core.List.{[], ◌∷◌, ◌++◌}
use mathlib.Core.Bool.{Bool, true, false, not}
use Prim.Native.Nat.{ℕ, zero, suc, ◌+◌, ◌*◌, ◌/◌, ◌%◌, ◌^◌, ◌≤◌, ◌<◌}
use native.Mathlib.Nat.{pow-suc, one-mul, zero-mod}
use native.Mathlib.Numerals.{add-one}
use native.Mathlib.Omega.{arith}
use lib.Bits.{bit_or, or_shr, or_mod, or_zero_r, or_add_and, and_le_l}
use lib.Pow.{shl_exact, mod-pow-add}
use lib.Seq.{set_out}
use lib.Dec.{eqb}
use lib.ListN.{length, take, set, replicate}
use borrow.Author.Tests.{eq-eqb, ne_eqb, eqb-true, eqb-false}
use Rattle.layout.specs.Tests.{◌and◌, all}
use Rattle.program.specs.Skips.{Ends, PLACES, onward, ends_of}

half : (k m : ℕ) → m < 2 ^ suc k → m / 2 < 2 ^ k
half k m h = omega (arith, rw (pow-suc 2 k) at h)

length-ends : (k m : ℕ) → length (ends_of k m) ≡ k
unfolding ends_of
length-ends zero m = refl
length-ends (suc k) m = ap suc (length-ends k (m / 2))

-- the mask 0: no end
pub ends-none : (k : ℕ) → ends_of k 0 ≡ replicate k false
unfolding ends_of
ends-none zero = refl
ends-none (suc k) = ap (λ (l : Ends). false ∷ l) (ends-none k)

-- one place more, at which nothing ends
ends_more : (k m : ℕ) → m < 2 ^ k → ends_of (suc k) m ≡ ends_of k m ++ (false ∷ [])
unfolding ends_of
ends_more zero m h = let e : m ≡ 0 = omega arith in rw e
ends_more (suc k) m h = ap (λ (l : Ends). eqb (m % 2) 1 ∷ l) (ends_more k (m / 2) (half k m h))

-- a shift: the next record's ends
pub ends-onward : (k m : ℕ) → m < 2 ^ suc k → ends_of (suc k) (m / 2) ≡ onward (ends_of (suc k) m)
unfolding ends_of
ends-onward k m h = ends_more k (m / 2) (half k m h)

-- a digit set: an end more
pub ends_set : (k m n : ℕ) → ends_of k (bit_or m (2 ^ n)) ≡ set (ends_of k m) n true
unfolding ends_of
ends_set zero m n = refl
ends_set (suc k) m zero =
    let low : eqb (bit_or m 1 % 2) 1 ≡ true = eq-eqb (bit_or m 1 % 2) 1 (omega (arith, or_mod m 1 1, or_add_and (m % 2) 1, and_le_l (m % 2) 1)) in
    let high : bit_or m 1 / 2 ≡ m / 2 = or_shr m 1 1 ∙ or_zero_r (m / 2) in
    rw (low, high)
ends_set (suc k) m (suc n) =
    let even : 2 ^ suc n % 2 ≡ 0 = omega (arith, pow-suc 2 n) in
    let halved : 2 ^ suc n / 2 ≡ 2 ^ n = omega (arith, pow-suc 2 n) in
    let low : bit_or m (2 ^ suc n) % 2 ≡ m % 2 = or_mod m (2 ^ suc n) 1 ∙ rw even (or_zero_r (m % 2)) in
    let high : bit_or m (2 ^ suc n) / 2 ≡ bit_or (m / 2) (2 ^ n) = or_shr m (2 ^ suc n) 1 ∙ rw halved in
    rw (low, high) (ap (λ (l : Ends). eqb (m % 2) 1 ∷ l) (ends_set k (m / 2) n))

-- a place past the last is not kept
pub ends-past : (k m n : ℕ) → k ≤ n → ends_of k m ≡ set (ends_of k m) n true
ends-past k m n h = sym (set_out (ends_of k m) n true (rw length-ends h))

-- nothing ends at the first n places where the n lowest digits are 0
pub ends-first : (k m n : ℕ) → m < 2 ^ k → all not (take n (ends_of k m)) ≡ eqb (m % 2 ^ n) 0
unfolding ends_of all ◌and◌
ends-first k m zero h = let e : m % 1 ≡ 0 = omega arith in rw e
ends-first zero m (suc n) h = let e : m ≡ 0 = omega arith in simp (e, zero-mod)
ends-first (suc k) m (suc n) h = go (eqb (m % 2) 1) (eqb (m % 2 ^ suc n) 0) refl refl (ends-first k (m / 2) n (half k m h))
  where
    digits : m % 2 ^ suc n ≡ (m / 2 % 2 ^ n) * 2 + m % 2
    digits = rw (← add-one n) (mod-pow-add m n 1)

    go : {later : Bool} (a b : Bool) → eqb (m % 2) 1 ≡ a → eqb (m % 2 ^ suc n) 0 ≡ b → later ≡ eqb (m / 2 % 2 ^ n) 0 → (not a and later) ≡ b
    go true true ea eb r = absurd (omega (arith, digits, eqb-true (m % 2) 1 ea, eqb-true (m % 2 ^ suc n) 0 eb))
    go true false ea eb r = refl
    go false true ea eb r = r ∙ eq-eqb (m / 2 % 2 ^ n) 0 (omega (arith, digits, eqb-true (m % 2 ^ suc n) 0 eb))
    go false false ea eb r = r ∙ ne_eqb (m / 2 % 2 ^ n) 0 (omega (arith, digits, eqb-false (m % 2) 1 ea, eqb-false (m % 2 ^ suc n) 0 eb))

-- 1 shifted to a place that is kept
pub at_place : {n : ℕ} → n < PLACES → (1 * 2 ^ n) % 2 ^ 64 ≡ 2 ^ n
at_place {n} h = shl_exact 1 n 64 (omega arith) (omega arith) ∙ one-mul (2 ^ n)
