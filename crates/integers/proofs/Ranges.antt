-- Whether a product is in the range of an i64, by a test that stays in it.
use Prim.Native.Nat.{ℕ, zero, suc, ◌*◌, ◌/◌, ◌≤◌, ◌<◌, zero-le}
use mathlib.Core.Path.{◌≡◌, refl, sym, ◌∙◌}
use mathlib.Core.Bool.{beq, Bool, true, false, false≢true}
use native.Mathlib.Omega.{arith}
use native.Mathlib.Nat.{le-div_iff_mul-le, mul_comm}
use lib.Dec.{ltb, leb, leb-suc-suc}
use lib.IntN.{ℤ, pos, negsuc, neg_ℤ, nat_abs, ◌*ℤ◌}
use lib.Signed.{mag, lt_z}
use mir.Syntax.{w64}
use mir.Val.{SFits}
use borrow.Author.Tests.{ltb-true, leb-true, lt-ltb, le-ltb, le-leb}
use Rattle.integers.specs.Computed.{limit_of}

-- ---- tests that say the same

pub same-leb : (a b c d : ℕ) → (a ≤ b → c ≤ d) → (c ≤ d → a ≤ b) → leb a b ≡ leb c d
same-leb a b c d f g = go (leb a b) refl
  where
    go : (t : Bool) → leb a b ≡ t → leb a b ≡ leb c d
    go true e = e ∙ sym (le-leb c d (f (leb-true a b e)))
    go false e = e ∙ sym (no_leb (leb c d) refl)
      where
        no_leb : (t : Bool) → leb c d ≡ t → leb c d ≡ false
        no_leb true h = absurd (false≢true (sym e ∙ le-leb a b (g (leb-true c d h))))
        no_leb false h = h

-- ---- products

pub at-most : (a b n : ℕ) → 0 < a → leb b (n / a) ≡ leb (a * b) n
at-most a b n h = same-leb b (n / a) (a * b) n (λ p. rw (mul_comm a b) ((le-div_iff_mul-le h).0 p)) (λ p. (le-div_iff_mul-le h).1 (rw (mul_comm a b) at p))

signless : (n m : ℕ) → ltb (mag (neg_ℤ (pos n))) (suc m) ≡ leb n (suc m)
signless zero m = lt-ltb 0 (suc m) (omega arith) ∙ sym (le-leb 0 (suc m) zero-le)
signless (suc n) m = refl

pub product-in : (x y : ℤ) → ltb (mag (x *ℤ y)) 9223372036854775808 ≡ leb (nat_abs x * nat_abs y) (limit_of x y)
unfolding limit_of
product-in (pos a) (pos b) = leb-suc-suc (a * b) 9223372036854775807
product-in (pos a) (negsuc b) = signless (a * suc b) 9223372036854775807
product-in (negsuc a) (pos b) = signless (suc a * b) 9223372036854775807
product-in (negsuc a) (negsuc b) = leb-suc-suc (suc a * suc b) 9223372036854775807

-- ---- an i64

pub passing : (z : ℤ) → ltb (mag z) 9223372036854775808 ≡ true → SFits w64 z
passing z h = record { sfits = ltb-true (mag z) 9223372036854775808 h }

-- ---- the limit of a product

-- where one is below 0 and the other is not, and where that is not so
pub unlike : (x y : ℤ) → beq (lt_z x (pos 0)) (lt_z y (pos 0)) ≡ false → limit_of x y ≡ 9223372036854775808
unfolding limit_of
unlike (pos a) (pos b) e = absurd (false≢true (sym (rw (le-ltb a 0 zero-le, le-ltb b 0 zero-le) at e)))
unlike (pos a) (negsuc b) e = refl
unlike (negsuc a) (pos b) e = refl
unlike (negsuc a) (negsuc b) e = absurd (false≢true (sym e))

pub alike : (x y : ℤ) → beq (lt_z x (pos 0)) (lt_z y (pos 0)) ≡ true → limit_of x y ≡ 9223372036854775807
unfolding limit_of
alike (pos a) (pos b) e = refl
alike (pos a) (negsuc b) e = absurd (false≢true (rw (le-ltb a 0 zero-le) at e))
alike (negsuc a) (pos b) e = absurd (false≢true (rw (le-ltb b 0 zero-le) at e))
alike (negsuc a) (negsuc b) e = refl
