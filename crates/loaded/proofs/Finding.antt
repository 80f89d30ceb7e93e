-- The version under a number of a table.
use mathlib.Core.Path.{◌≡◌, refl, ap, ◌∙◌}
use mathlib.Core.Logic.{◌⊎◌, inl, inr}
use mathlib.Core.List.{List, [], ◌∷◌}
use mathlib.Core.Option.{none}
use mathlib.Core.Bool.{Bool, true, false, cond}
use Prim.Native.Nat.{ℕ, zero, suc, ◌+◌, ◌*◌, ◌/◌, ◌%◌, ◌≤◌, ◌<◌}
use native.Mathlib.Omega.{arith}
use lib.Dec.{eqb}
use borrow.Author.Tests.{eq-eqb, eqb-true, eqb-false}
use Rattle.layout.specs.Records.{◌!◌}
use Rattle.layout.specs.Tests.{◌and◌}
use Rattle.program.specs.Program.{find_version}
use Rattle.loaded.specs.Loaded.{entry_in, version_in, numbered_in, versions_in, program_in}
use Rattle.loaded.proofs.Stores.{entry-none}

-- the version w of the function f is under the number 4 f + w alone
module _ (s t : List ℕ) (f w : ℕ) where
  differs : (k : ℕ) → (k / 4 ≡ f → k % 4 ≡ w → ⊥) → (eqb (k / 4) f and eqb (k % 4) w) ≡ false
  unfolding ◌and◌
  differs k h = go (eqb (k / 4) f) (eqb (k % 4) w) refl refl
    where
      go : (a b : Bool) → eqb (k / 4) f ≡ a → eqb (k % 4) w ≡ b → (a and b) ≡ false
      go true true x y = absurd (h (eqb-true _ _ x) (eqb-true _ _ y))
      go true false x y = refl
      go false b x y = refl

  -- none of n from k on is it
  none_from : (k n : ℕ) → ((j : ℕ) → k ≤ j → j < k + n → j / 4 ≡ f → j % 4 ≡ w → ⊥) → find_version (versions_in s t k n) f w ≡ none
  unfolding versions_in find_version version_in
  none_from k zero h = refl
  none_from k (suc n) h = go (eqb (entry_in t k) 0) (none_from (suc k) n (λ j a b x y. h j (omega arith) (omega arith) x y))
    where
      go : (b : Bool) → find_version (versions_in s t (suc k) n) f w ≡ none → find_version (cond b (versions_in s t (suc k) n) (version_in s t k ∷ versions_in s t (suc k) n)) f w ≡ none
      go true r = r
      go false r = rw (differs k (λ x y. h k (omega arith) (omega arith) x y), r) refl

  -- the one under the number m is
  found_from : (m k n : ℕ) → m / 4 ≡ f → m % 4 ≡ w → k ≤ m → m < k + n → find_version (versions_in s t k n) f w ≡ numbered_in s t m
  unfolding versions_in find_version version_in numbered_in ◌and◌
  found_from m k zero e g a b = absurd (omega arith)
  found_from m k (suc n) e g a b = go (eqb k m) refl (eqb (entry_in t k) 0) refl (λ l. found_from m (suc k) n e g l (omega arith))
    where
      other : (k ≡ m → ⊥) → k / 4 ≡ f → k % 4 ≡ w → ⊥
      other z x y = z (omega arith)

      go : (c : Bool) → eqb k m ≡ c → (b : Bool) → eqb (entry_in t k) 0 ≡ b → (suc k ≤ m → find_version (versions_in s t (suc k) n) f w ≡ numbered_in s t m)
          → find_version (cond b (versions_in s t (suc k) n) (version_in s t k ∷ versions_in s t (suc k) n)) f w ≡ numbered_in s t m
      go true q true r ih = let z = eqb-true k m q in rw (← z, r) (none_from (suc k) n (λ j c d x y. omega arith))
      go true q false r ih = let z = eqb-true k m q in rw (← z, r, eq-eqb (k / 4) f (ap (λ x. x / 4) z ∙ e), eq-eqb (k % 4) w (ap (λ x. x % 4) z ∙ g)) refl
      go false q true r ih = let z = eqb-false k m q in ih (omega arith)
      go false q false r ih = let z = eqb-false k m q in rw (differs k (other z)) (ih (omega arith))

  -- as a look-up answers it
  pub outside : (32 ≤ f) ⊎ (4 ≤ w) → find_version (program_in s t) f w ≡ none
  unfolding program_in
  outside (inl h) = none_from 0 128 (λ j a b x y. omega arith)
  outside (inr h) = none_from 0 128 (λ j a b x y. omega arith)

  pub within : f < 32 → w < 4 → find_version (program_in s t) f w ≡ numbered_in s t (4 * f + w)
  unfolding program_in
  within h l = found_from (4 * f + w) 0 128 (omega arith) (omega arith) (omega arith) (omega arith)

-- a table without versions stands for no program
none-there : (s t : List ℕ) → ((j : ℕ) → j < 256 → t ! j ≡ 0) → (k n : ℕ) → k + n ≤ 128 → versions_in s t k n ≡ []
unfolding versions_in
none-there s t h k zero l = refl
none-there s t h k (suc n) l = rw (entry-none t k (h (2 * k) (omega arith)) (h (2 * k + 1) (omega arith))) (none-there s t h (suc k) n (omega arith))

pub no-versions : (s t : List ℕ) → ((j : ℕ) → j < 256 → t ! j ≡ 0) → program_in s t ≡ []
unfolding program_in
no-versions s t h = none-there s t h 0 128 (omega arith)
