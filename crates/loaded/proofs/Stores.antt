-- Entries and records that are written into a table, and what they leave.
use mathlib.Core.Path.{◌≡◌, refl, sym, ap, ◌∙◌}
use mathlib.Core.List.{List, [], ◌∷◌}
use Prim.Native.Nat.{ℕ, zero, suc, ◌+◌, ◌*◌, ◌/◌, ◌%◌, ◌≤◌, ◌<◌}
use native.Mathlib.Nat.{add-zero}
use native.Mathlib.Omega.{arith}
use lib.ListN.{length, length-set, set}
use lib.Seq.{get_or-set_same, get_or-set_other, length-sets, sets}
use Rattle.layout.specs.Records.{◌!◌}
use Rattle.loaded.specs.Loaded.{entry_in, place_in, record_at}
use Rattle.loaded.specs.Filling.{pair_of, pointed, record_of, recorded}

-- ---- stores one behind the other

stored_other : (vs t : List ℕ) (i j : ℕ) → (i ≤ j → j < i + length vs → ⊥) → sets t i vs ! j ≡ t ! j
stored_other [] t i j h = refl
stored_other (a ∷ vs) t i j h = stored_other vs (set t i a) (suc i) j (λ x y. h (omega arith) (omega arith)) ∙ get_or-set_other t i j a 0 (λ e. h (omega arith) (omega arith))

stored_at : (vs t : List ℕ) (i k : ℕ) → k < length vs → i + length vs ≤ length t → sets t i vs ! (i + k) ≡ vs ! k
stored_at [] t i k h l = absurd (omega arith)
stored_at (a ∷ vs) t i zero h l = rw add-zero (stored_other vs (set t i a) (suc i) i (λ x y. omega arith) ∙ get_or-set_same t i a 0 (omega arith))
stored_at (a ∷ vs) t i (suc k) h l =
    let e : i + suc k ≡ suc i + k = omega arith in
    let n = length-set t i a in
    ap (λ (j : ℕ). sets (set t i a) (suc i) vs ! j) e ∙ stored_at vs (set t i a) (suc i) k (omega arith) (omega arith)

-- ---- an entry

module _ (t : List ℕ) (k x : ℕ) where
  pub length-pointed : length (pointed t k x) ≡ length t
  unfolding pointed
  length-pointed = length-sets t (2 * k) (pair_of x)

  pub pointed-other : (j : ℕ) → (2 * k ≤ j → j < 2 * k + 2 → ⊥) → pointed t k x ! j ≡ t ! j
  unfolding pointed
  pointed-other j h = stored_other (pair_of x) t (2 * k) j h

  module _ (room : 2 * k + 2 ≤ length t) where
    pub pointed-low : pointed t k x ! (2 * k) ≡ x % 256
    unfolding pointed
    pointed-low = ap (λ (j : ℕ). sets t (2 * k) (pair_of x) ! j) (sym (add-zero (2 * k))) ∙ stored_at (pair_of x) t (2 * k) 0 (omega arith) room

    pub pointed-high : pointed t k x ! (2 * k + 1) ≡ x / 256
    unfolding pointed
    pointed-high = stored_at (pair_of x) t (2 * k) 1 (omega arith) room

-- as the code writes it
pub pointed-by : (t : List ℕ) (k x : ℕ) {t' t'' : List ℕ} → t' ≡ set t (2 * k) (x % 256) → t'' ≡ set t' (2 * k + 1) (x / 256) → t'' ≡ pointed t k x
unfolding pointed
pointed-by t k x a b = let e : 2 * k + 1 ≡ suc (2 * k) = omega arith in rw (b, a, e) refl

-- an entry by its two bytes
pub entry-is : (t : List ℕ) (k x : ℕ) → t ! (2 * k) ≡ x % 256 → t ! (2 * k + 1) ≡ x / 256 → entry_in t k ≡ x
unfolding entry_in
entry-is t k x a b = omega arith

pub entry-none : (t : List ℕ) (k : ℕ) → t ! (2 * k) ≡ 0 → t ! (2 * k + 1) ≡ 0 → entry_in t k ≡ 0
unfolding entry_in
entry-none t k a b = omega arith

-- ---- a record

module _ (s t : List ℕ) (i p : ℕ) where
  pub length-recorded : length (recorded s t i p) ≡ length t
  unfolding recorded
  length-recorded = length-sets t (record_at i) (record_of s p)

  pub recorded-other : (j : ℕ) → (record_at i ≤ j → j < record_at i + 8 → ⊥) → recorded s t i p ! j ≡ t ! j
  unfolding recorded
  recorded-other j h = stored_other (record_of s p) t (record_at i) j h

  pub recorded-at : (j : ℕ) → j < 8 → record_at i + 8 ≤ length t → recorded s t i p ! (record_at i + j) ≡ record_of s p ! j
  unfolding recorded
  recorded-at j h l = stored_at (record_of s p) t (record_at i) j h l

-- as the code writes it: the bytes x one behind the other
module _ (s t : List ℕ) (i p : ℕ) {x0 x1 x2 x3 x4 x5 : ℕ} {t0 t1 t2 t3 t4 t5 t6 t7 : List ℕ} where
  pub recorded-by : x0 ≡ s ! p → x1 ≡ s ! (p + 2) → x2 ≡ s ! (p + 3) → x3 ≡ s ! (p + 4) → x4 ≡ s ! (p + 5) → x5 ≡ s ! (p + 6)
      → t0 ≡ set t (record_at i) x0 → t1 ≡ set t0 (record_at i + 1) x1 → t2 ≡ set t1 (record_at i + 2) x2 → t3 ≡ set t2 (record_at i + 3) x3
      → t4 ≡ set t3 (record_at i + 4) x4 → t5 ≡ set t4 (record_at i + 5) x5 → t6 ≡ set t5 (record_at i + 6) (p % 256) → t7 ≡ set t6 (record_at i + 7) (p / 256) → t7 ≡ recorded s t i p
  unfolding recorded
  recorded-by a0 a1 a2 a3 a4 a5 b0 b1 b2 b3 b4 b5 b6 b7 =
      let e1 : record_at i + 1 ≡ suc (record_at i) = omega arith in
      let e2 : record_at i + 2 ≡ suc (suc (record_at i)) = omega arith in
      let e3 : record_at i + 3 ≡ suc (suc (suc (record_at i))) = omega arith in
      let e4 : record_at i + 4 ≡ suc (suc (suc (suc (record_at i)))) = omega arith in
      let e5 : record_at i + 5 ≡ suc (suc (suc (suc (suc (record_at i))))) = omega arith in
      let e6 : record_at i + 6 ≡ suc (suc (suc (suc (suc (suc (record_at i)))))) = omega arith in
      let e7 : record_at i + 7 ≡ suc (suc (suc (suc (suc (suc (suc (record_at i))))))) = omega arith in
      b7 ∙ rw (b6, b5, b4, b3, b2, b1, b0, e1, e2, e3, e4, e5, e6, e7, a0, a1, a2, a3, a4, a5) refl

-- the record i of T is that of the place p
abbrev pub Written : List ℕ → List ℕ → ℕ → ℕ → Type 0
Written s T i p = (j : ℕ) → j < 8 → T ! (record_at i + j) ≡ record_of s p ! j

module _ (s T : List ℕ) (i p : ℕ) (W : Written s T i p) where
  pub written-kind : T ! record_at i ≡ s ! p
  written-kind = ap (λ (j : ℕ). T ! j) (sym (add-zero (record_at i))) ∙ W 0 (omega arith)

  pub written-field : (j : ℕ) → j < 5 → T ! (record_at i + 1 + j) ≡ s ! (p + 2 + j)
  written-field j l = ap (λ (x : ℕ). T ! x) (omega arith) ∙ W (suc j) (omega arith) ∙ go j l
    where
      go : (j : ℕ) → j < 5 → record_of s p ! suc j ≡ s ! (p + 2 + j)
      go zero l = ap (λ (x : ℕ). s ! x) (omega arith)
      go (suc zero) l = ap (λ (x : ℕ). s ! x) (omega arith)
      go (suc (suc zero)) l = ap (λ (x : ℕ). s ! x) (omega arith)
      go (suc (suc (suc zero))) l = ap (λ (x : ℕ). s ! x) (omega arith)
      go (suc (suc (suc (suc zero)))) l = ap (λ (x : ℕ). s ! x) (omega arith)
      go (suc (suc (suc (suc (suc j))))) l = absurd (omega arith)

  pub written-place : place_in T i ≡ p
  unfolding place_in
  written-place = let a = W 6 (omega arith) in let b = W 7 (omega arith) in omega arith
