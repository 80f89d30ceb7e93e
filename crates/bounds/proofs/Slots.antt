-- Versions in order of number are those at the places of the table, one after the other.
use mathlib.Core.Path.{◌≡◌, refl, sym, ap, ◌∙◌}
use mathlib.Core.List.{List, [], ◌∷◌, ◌++◌, append_assoc, append-nil}
use mathlib.Core.Option.{Option, none, some}
use mathlib.Core.Bool.{Bool, true, false, cond}
use Prim.Native.Nat.{ℕ, zero, suc, ◌+◌, ◌*◌, ◌/◌, ◌%◌, ◌≤◌, ◌<◌}
use native.Mathlib.Omega.{arith}
use lib.ListN.{length}
use lib.Dec.{eqb, ltb}
use borrow.Author.Tests.{eqb-true, lt-ltb, le-ltb}
use Rattle.layout.specs.Records.{◌!◌}
use Rattle.layout.specs.Tests.{◌and◌}
use Rattle.layout.proofs.Bools.{and-on, and_both}
use Rattle.program.specs.Places.{version_at, version_place, table_of, listed_in, place_in}
use Rattle.program.specs.Program.{Version, Program, find_version}
use Rattle.program.proofs.Lookups.{version-found, version-missing}
use Rattle.program.proofs.Tables.{listed-right}
use Rattle.machine.specs.Begin.{program_of}
use Rattle.machine.specs.Calls.{present}
use Rattle.bounds.specs.Bounds.{passing, fitting, versions_from, by_number}

-- the version at the place k
abbrev pub slot : Program → ℕ → Option Version
slot P k = find_version P (k / 4) (k % 4)

-- those at n places from k on
unfoldable pub slots : Program → ℕ → ℕ → List Version
slots P zero k = []
slots P (suc n) k = passing (λ v. true) (slot P k) ++ slots P n (k + 1)

-- the places of one function are four
slots-four : (P : Program) (n f : ℕ) → slots P (suc (suc (suc (suc n)))) (4 * f) ≡ fitting P f (λ v. true) 4 0 ++ slots P n (4 * (f + 1))
unfolding slots fitting
slots-four P n f =
    let a : 4 * f / 4 ≡ f = omega arith in
    let b : 4 * f % 4 ≡ 0 = omega arith in
    let c : (4 * f + 1) / 4 ≡ f = omega arith in
    let d : (4 * f + 1) % 4 ≡ 1 = omega arith in
    let e : (4 * f + 1 + 1) / 4 ≡ f = omega arith in
    let g : (4 * f + 1 + 1) % 4 ≡ 2 = omega arith in
    let h : (4 * f + 1 + 1 + 1) / 4 ≡ f = omega arith in
    let i : (4 * f + 1 + 1 + 1) % 4 ≡ 3 = omega arith in
    let j : 4 * f + 1 + 1 + 1 + 1 ≡ 4 * (f + 1) = omega arith in
    rw (a, b, c, d, e, g, h, i, j) (simp (append_assoc, append-nil))

slots-from : (P : Program) (n f : ℕ) → slots P (4 * n) (4 * f) ≡ versions_from P n f
unfolding slots versions_from
slots-from P zero f = refl
slots-from P (suc n) f =
    let z : 4 * suc n ≡ suc (suc (suc (suc (4 * n)))) = omega arith in
    let y : f + 1 ≡ suc f = omega arith in
    rw z (slots-four P (4 * n) f ∙ ap (λ (l : List Version). fitting P f (λ v. true) 4 0 ++ l) (ap (λ (m : ℕ). slots P (4 * n) (4 * m)) y ∙ slots-from P n (suc f)))

-- THE LAW: the versions in order of number
pub by_slots : (P : Program) → by_number P ≡ slots P 128 0
unfolding by_number
by_slots P = sym (slots-from P 32 0)

-- ---- the place k of the table of an image

module _ (s : List ℕ) (k : ℕ) (h : k < 128) where
  place-there : version_place s (k / 4) (k % 4) ≡ place_in s (table_of s ! k)
  unfolding listed_in
  place-there =
      let z : 4 * (k / 4) + k % 4 ≡ k = omega arith in
      sym (listed-right s (table_of s) (k / 4) (k % 4) refl) ∙ rw (and-on (ltb (k % 4) 4) (lt-ltb (k / 4) 32 (omega arith)), lt-ltb (k % 4) 4 (omega arith), z) refl

  pub slot-there : table_of s ! k < length s → slot (program_of s) k ≡ some (version_at s (table_of s ! k))
  unfolding place_in
  slot-there l = (version-found s (k / 4) (k % 4) (table_of s ! k) (place-there ∙ rw (lt-ltb (table_of s ! k) (length s) l) refl)).0

  pub slot-missing : length s ≤ table_of s ! k → slot (program_of s) k ≡ none
  unfolding place_in
  slot-missing l = version-missing s (k / 4) (k % 4) (place-there ∙ rw (le-ltb (table_of s ! k) (length s) l) refl)

-- one more place
module _ (P : Program) (n k : ℕ) where
  pub slots-there : (v : Version) → slot P k ≡ some v → slots P (suc n) k ≡ v ∷ slots P n (k + 1)
  unfolding slots passing
  slots-there v e = rw e refl

  pub slots-missing : slot P k ≡ none → slots P (suc n) k ≡ slots P n (k + 1)
  unfolding slots passing
  slots-missing e = rw e refl

  slots_length : length (slots P (suc n) k) ≡ present (slot P k) + length (slots P n (k + 1))
  unfolding slots passing present
  slots_length = go (slot P k) refl
    where
      go : (o : Option Version) → slot P k ≡ o → length (passing (λ v. true) o ++ slots P n (k + 1)) ≡ present o + length (slots P n (k + 1))
      go none e = omega arith
      go (some v) e = omega arith

-- ---- no more than there are in the program

-- the place of a version, by its numbers
abbrev pub place_of : Version → ℕ
place_of v = 4 * v.function + v.version

-- is it the one at the place k?
is-at : (W : Version) (k : ℕ) → Bool
is-at W k = eqb W.function (k / 4) and eqb W.version (k % 4)

-- then that is its place
at_place : (W : Version) (k : ℕ) → is-at W k ≡ true → place_of W ≡ k
unfolding is-at
at_place W k e = let a = and_both _ _ e in omega (arith, eqb-true W.function (k / 4) a.0, eqb-true W.version (k % 4) a.1)

present-one : (o : Option Version) → present o ≤ 1
unfolding present
present-one none = omega arith
present-one (some v) = omega arith

slots-none : (n k : ℕ) → length (slots [] n k) ≡ 0
unfolding slots find_version passing
slots-none zero k = refl
slots-none (suc n) k = slots-none n (k + 1)

-- one more version in front: none more behind its place
slot-front : (W : Version) (P : Program) (k : ℕ) → slot (W ∷ P) k ≡ cond (is-at W k) (some W) (slot P k)
unfolding find_version is-at
slot-front W P k = refl

slots-behind : (W : Version) (P : Program) (n k : ℕ) → place_of W < k → length (slots (W ∷ P) n k) ≡ length (slots P n k)
unfolding slots
slots-behind W P zero k h = refl
slots-behind W P (suc n) k h = rw (slots_length (W ∷ P) n k, slots_length P n k, slots-behind W P n (k + 1) (omega arith), other (is-at W k) refl) refl
  where
    other : (b : Bool) → is-at W k ≡ b → slot (W ∷ P) k ≡ slot P k
    other true e = absurd (omega (arith, at_place W k e))
    other false e = slot-front W P k ∙ rw e refl

-- and at most one more from anywhere on
slots-more : (W : Version) (P : Program) (n k : ℕ) → length (slots (W ∷ P) n k) ≤ length (slots P n k) + 1
unfolding slots
slots-more W P zero k = omega arith
slots-more W P (suc n) k = rw (slots_length (W ∷ P) n k, slots_length P n k) (go (is-at W k) refl (slots-more W P n (k + 1)))
  where
    go : (b : Bool) → is-at W k ≡ b → length (slots (W ∷ P) n (k + 1)) ≤ length (slots P n (k + 1)) + 1 → present (slot (W ∷ P) k) + length (slots (W ∷ P) n (k + 1)) ≤ present (slot P k) + length (slots P n (k + 1)) + 1
    go true e ih = rw (slot-front W P k, e) (omega (arith, one (some W), slots-behind W P n (k + 1) (omega (arith, at_place W k e))))
      where
        one : (o : Option Version) → present o ≤ 1
        one o = present-one o
    go false e ih = rw (slot-front W P k, e) (omega (arith, ih))

-- THE LAW: there are no more in order of number than in the program
pub slots-few : (P : Program) → length (by_number P) ≤ length P
slots-few P = rw (by_slots P) (go P)
  where
    none-there : (n k : ℕ) → length (slots [] n k) ≡ 0
    none-there n k = slots-none n k

    go : (Q : Program) → length (slots Q 128 0) ≤ length Q
    go [] = omega (arith, none-there 128 0)
    go (W ∷ Q) = omega (arith, slots-more W Q 128 0, go Q)
