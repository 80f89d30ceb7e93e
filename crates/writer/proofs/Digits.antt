-- Decimal digits, from the last one back.
use mathlib.Core.Path.{◌≡◌, refl, sym, ap, ◌∙◌}
use mathlib.Core.List.{List, [], ◌∷◌, ◌++◌}
use mathlib.Core.Bool.{Bool, true, false}
use Prim.Native.Nat.{ℕ, zero, suc, ◌+◌, ◌*◌, ◌/◌, ◌%◌, ◌^◌, ◌≤◌, ◌<◌}
use native.Mathlib.Nat.{pow-suc}
use Rattle.std.proofs.Math.Nat.{one-le-pow}
use native.Mathlib.Omega.{arith}
use lib.Dec.{ltb}
use lib.ListN.{length, length-append}
use borrow.Author.Tests.{lt-ltb, le-ltb, ltb-true, ltb-false}
use Rattle.writer.specs.Text.{digits, decimal}

-- a number below ten is one digit
digits-one : (k n : ℕ) → n < 10 → digits (suc k) n ≡ (48 + n % 10) ∷ []
unfolding digits
digits-one k n h = rw (lt-ltb n 10 h)

-- any other is the digits of its tenth, and its last digit
digits_more : (k n : ℕ) → 10 ≤ n → digits (suc k) n ≡ digits k (n / 10) ++ ((48 + n % 10) ∷ [])
unfolding digits
digits_more k n h = rw (le-ltb n 10 h)

-- a number below ten, or ten at least
by_ten : {P : Type 0} (n : ℕ) → (n < 10 → P) → (10 ≤ n → P) → P
by_ten {P} n below above = go (ltb n 10) refl
  where
    go : (b : Bool) → ltb n 10 ≡ b → P
    go true e = below (ltb-true n 10 e)
    go false e = above (ltb-false n 10 e)

-- asking for more digits than there are changes nothing
digits-enough : (k n : ℕ) → n < 10 ^ suc k → digits (suc (suc k)) n ≡ digits (suc k) n
digits-enough zero n h = digits-one 1 n h ∙ sym (digits-one 0 n h)
digits-enough (suc k) n h =
    by_ten n
    (λ below. digits-one (suc (suc k)) n below ∙ sym (digits-one (suc k) n below))
    (λ above.
    let tenth : n / 10 < 10 ^ suc k = omega (arith, rw (pow-suc 10 (suc k)) at h) in
    digits_more (suc (suc k)) n above
    ∙ ap (λ (front : List ℕ). front ++ ((48 + n % 10) ∷ [])) (digits-enough k (n / 10) tenth)
    ∙ sym (digits_more (suc k) n above))

-- a digit at least where one is asked for
digits-some : (k n : ℕ) → 1 ≤ length (digits (suc k) n)
unfolding digits
digits-some k n = rw length-append (omega arith)

-- no more digits than asked for
digits-most : (k n : ℕ) → length (digits k n) ≤ k
unfolding digits
digits-most zero n = omega arith
digits-most (suc k) n =
    by_ten n
    (λ below. rw (digits-one k n below) (omega arith))
    (λ above. rw (digits_more k n above, length-append) (omega (arith, digits-most k (n / 10))))

-- a number below ten in decimal
pub decimal-one : (n : ℕ) → n < 10 → decimal n ≡ (48 + n % 10) ∷ []
decimal-one n h = digits-one 19 n h

-- any other, as far as decimal goes
pub decimal-more : (n : ℕ) → 10 ≤ n → n < 10 ^ 20 → decimal n ≡ decimal (n / 10) ++ ((48 + n % 10) ∷ [])
decimal-more n h most =
    digits_more 19 n h ∙ ap (λ (front : List ℕ). front ++ ((48 + n % 10) ∷ [])) (sym (digits-enough 18 (n / 10) (omega arith)))

-- a digit at least
pub decimal-some : (n : ℕ) → 1 ≤ length (decimal n)
decimal-some n = digits-some 19 n

-- at most 20 digits
pub decimal-most : (n : ℕ) → length (decimal n) ≤ 20
decimal-most n = digits-most 20 n

-- a number below ten has one digit
pub length-one : (n : ℕ) → n < 10 → length (decimal n) ≡ 1
length-one n h = ap length (decimal-one n h)

-- any other has one more than its tenth
pub length_more : (n : ℕ) → 10 ≤ n → n < 10 ^ 20 → length (decimal n) ≡ length (decimal (n / 10)) + 1
length_more n h most = ap length (decimal-more n h most) ∙ simp length-append

-- k + 1 digits from 10 ^ k on
pub length-tens : (n k : ℕ) → 10 ^ k ≤ n → n < 10 * 10 ^ k → n < 10 ^ 20 → length (decimal n) ≡ k + 1
length-tens n zero low high most = length-one n (omega (arith, high))
length-tens n (suc k) low high most =
    let many : 10 ≤ n = omega (arith, rw (pow-suc 10 k) at low, one-le-pow k 10 (omega arith)) in
    let tenth : length (decimal (n / 10)) ≡ k + 1 =
    length-tens (n / 10) k (omega (arith, rw (pow-suc 10 k) at low)) (omega (arith, rw (pow-suc 10 k) at high)) (omega arith) in
    omega (arith, length_more n many most, tenth)

-- as many digits as there are are all of them
digits-whole : (k n : ℕ) → digits (length (digits k n)) n ≡ digits k n
unfolding digits
digits-whole zero n = refl
digits-whole (suc k) n =
    by_ten n
    (λ below. rw (digits-one k n below) (digits-one 0 n below))
    (λ above.
    let more = digits_more k n above in
    let size : length (digits (suc k) n) ≡ suc (length (digits k (n / 10))) = omega (arith, ap length more, length-append (digits k (n / 10)) ((48 + n % 10) ∷ [])) in
    rw size
    (digits_more (length (digits k (n / 10))) n above
    ∙ ap (λ (front : List ℕ). front ++ ((48 + n % 10) ∷ [])) (digits-whole k (n / 10))
    ∙ sym more))

pub decimal-whole : (n : ℕ) → digits (length (decimal n)) n ≡ decimal n
decimal-whole n = digits-whole 20 n

-- where there are more digits to come, the last stands behind those of the tenth
pub digits-last : (k n : ℕ) → length (digits (suc k) n) ≡ suc k → digits (suc k) n ≡ digits k (n / 10) ++ ((48 + n % 10) ∷ [])
unfolding digits
digits-last k n size =
    by_ten n
    (λ below.
    let none : k ≡ 0 = omega (arith, size, ap length (digits-one k n below)) in
    rw none (digits-one 0 n below))
    (λ above. digits_more k n above)
