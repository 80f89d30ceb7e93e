-- 64 bits read as a signed number: those from 2⁶³ on are below zero.
use mathlib.Core.Path.{◌≡◌, refl, sym, ap, ◌∙◌}
use Prim.Native.Nat.{ℕ, zero, suc, ◌-◌, ◌≤◌, ◌<◌}
use native.Mathlib.Nat.{zero-add}
use native.Mathlib.Omega.{arith}
use lib.IntN.{ℤ, pos, negsuc, ◌-ℤ◌}
use mir.Syntax.{w64}
use mir.Val.{SFits, to_z}
use mir.ValLaws.{to_z_pos, to_z-neg}

-- −1 − m
minus : (m : ℕ) → negsuc 0 -ℤ pos m ≡ negsuc m
minus zero = refl
minus (suc m) = ap (λ (n : ℕ). negsuc (suc n)) (zero-add m)

module _ (u : ℕ) (h : 9223372036854775808 ≤ u) (l : u < 18446744073709551616) where
  pub upper : negsuc 0 -ℤ to_z w64 (18446744073709551615 - u) ≡ negsuc (18446744073709551615 - u)
  upper = ap (λ (z : ℤ). negsuc 0 -ℤ z) (to_z_pos w64 (18446744073709551615 - u) (omega arith)) ∙ minus (18446744073709551615 - u)

  pub upper_fits : SFits w64 (negsuc 0 -ℤ to_z w64 (18446744073709551615 - u))
  upper_fits = rw upper (record { sfits = omega arith })

  pub upper-signed : negsuc 0 -ℤ to_z w64 (18446744073709551615 - u) ≡ to_z w64 u
  upper-signed = upper ∙ sym (to_z-neg w64 (18446744073709551615 - u) (omega arith)) ∙ ap (to_z w64) back
    where
      back : 18446744073709551616 - suc (18446744073709551615 - u) ≡ u
      back = omega arith
