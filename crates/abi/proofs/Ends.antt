-- What the status of a state says, by its byte.
use mathlib.Core.Path.{◌≡◌, refl}
use mathlib.Core.List.{List}
use mathlib.Core.Bool.{false}
use Prim.Native.Nat.{ℕ, zero, suc, ◌+◌, ◌≤◌, ◌<◌}
use native.Mathlib.Omega.{arith}
use lib.IntN.{ℤ, pos}
use lib.Dec.{eqb}
use mir.Syntax.{w64}
use mir.Val.{SFits, to_z, of_z}
use mir.Facts.{to_z-of_z}
use borrow.Author.Tests.{ne_eqb}
use Rattle.layout.specs.Records.{◌!◌}
use Rattle.machine.specs.Runs.{saying}
use Rattle.store.specs.Store.{STATUS, ENDING, ◌#◌, state_in, status_of}
use Rattle.abi.specs.Answers.{end_in, end_numbers, plain_numbers, said_numbers}
use Rattle.abi.specs.declared.answers.FirSaid.{FirSaid}

-- ---- by the number of a status

abbrev said : ℕ → ℕ → ℤ → FirSaid
said t l z = said_numbers (saying (status_of t l z))

-- that goes on, or stopped
plainly : (t l : ℕ) (z : ℤ) → (t ≡ 1 → ⊥) → (t ≡ 2 → ⊥) → t < 6 → plain_numbers t ≡ said t l z
unfolding status_of saying said_numbers end_numbers plain_numbers
plainly zero l z f g h = refl
plainly (suc zero) l z f g h = absurd (f refl)
plainly (suc (suc zero)) l z f g h = absurd (g refl)
plainly (suc (suc (suc zero))) l z f g h = refl
plainly (suc (suc (suc (suc zero)))) l z f g h = refl
plainly (suc (suc (suc (suc (suc zero))))) l z f g h = refl
plainly (suc (suc (suc (suc (suc (suc t)))))) l z f g h = absurd (omega (arith, h))

-- each number from 6 on is the last stop
lastly : (t l : ℕ) (z : ℤ) → 6 ≤ t → plain_numbers 6 ≡ said t l z
unfolding status_of saying said_numbers end_numbers plain_numbers
lastly t l z h = rw (other 0 (omega arith), other 1 (omega arith), other 2 (omega arith), other 3 (omega arith), other 4 (omega arith), other 5 (omega arith)) refl
  where
    other : (k : ℕ) → k < 6 → eqb t k ≡ false
    other k g = ne_eqb t k (λ e. absurd (omega (arith, e)))

module _ (b : List ℕ) (n : List ℤ) where
  -- the integer as it is read
  pub says-integer : SFits w64 (n # ENDING) → b ! STATUS ≡ 1 → record { value = to_z w64 (of_z w64 (n # ENDING)); code = 1; length = 0 } ≡ end_in b n
  unfolding end_in state_in status_of saying said_numbers end_numbers
  says-integer f e = rw (to_z-of_z f, e) refl

  pub says-vector : b ! STATUS ≡ 2 → record { value = pos 0; code = 2; length = b ! (STATUS + 1) } ≡ end_in b n
  unfolding end_in state_in status_of saying said_numbers end_numbers
  says-vector e = rw e refl

  pub says_plain : (b ! STATUS ≡ 1 → ⊥) → (b ! STATUS ≡ 2 → ⊥) → b ! STATUS < 6 → plain_numbers (b ! STATUS) ≡ end_in b n
  unfolding end_in state_in
  says_plain f g h = plainly (b ! STATUS) _ _ f g h

  pub says_last : 6 ≤ b ! STATUS → plain_numbers 6 ≡ end_in b n
  unfolding end_in state_in
  says_last h = lastly (b ! STATUS) _ _ h
