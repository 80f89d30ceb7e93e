-- Laws of signed numbers and their bits.
use Prim.Native.Nat.{ℕ, zero, suc, ◌<◌}
use mathlib.Core.Path.{◌≡◌, refl, sym, ◌∙◌}
use mathlib.Core.Bool.{Bool, false}
use native.Mathlib.Omega.{arith}
use lib.IntN.{ℤ, pos, negsuc}
use lib.Dec.{eqb}
use mir.Syntax.{w64}
use mir.Val.{SFits, to_z, of_z}
use mir.Facts.{to_z-of_z}
use borrow.Author.Tests.{ne_eqb}
use Rattle.machine.specs.Values.{is_zero}
use Rattle.integers.specs.Computed.{is_minus_one}

-- ---- bits

pub zero_bits : (z : ℤ) → SFits w64 z → eqb (of_z w64 z) 0 ≡ is_zero z
unfolding is_zero
zero_bits (pos n) p = refl
zero_bits (negsuc n) p = ne_eqb (of_z w64 (negsuc n)) 0 (λ q. omega (arith, p.sfits))

pub minus-one-bits : (z : ℤ) → SFits w64 z → eqb (of_z w64 z) 18446744073709551615 ≡ is_minus_one z
unfolding is_minus_one
minus-one-bits (pos n) p = ne_eqb (of_z w64 (pos n)) 18446744073709551615 (λ q. omega (arith, p.sfits))
minus-one-bits (negsuc zero) p = refl
minus-one-bits (negsuc (suc n)) p = ne_eqb (of_z w64 (negsuc (suc n))) 18446744073709551615 (λ q. omega (arith, p.sfits))

-- what the test of an i64 answered is so of it
pub told : (test : ℤ → Bool) {z : ℤ} {answer b : Bool} → SFits w64 z → answer ≡ test (to_z w64 (of_z w64 z)) → answer ≡ b → test z ≡ b
told test p e h = sym (rw (to_z-of_z p) at e) ∙ h

-- a divisor that is not 0 has bits that are not 0
pub bits_above : (y : ℤ) → SFits w64 y → is_zero y ≡ false → 0 < of_z w64 y
unfolding is_zero
bits_above (pos zero) p e = let z : ◌≡◌ {A = ℕ} 0 1 = cc in absurd (omega arith)
bits_above (pos (suc n)) p e = omega arith
bits_above (negsuc n) p e = omega (arith, p.sfits)
