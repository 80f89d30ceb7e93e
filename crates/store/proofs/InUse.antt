-- How many vectors are in use, and a place for one more.
use Rattle.std.specs.Prelude.{None, Some}
use mathlib.Core.Path.{◌≡◌, refl, sym, ap, ◌∙◌, subst}
use Rattle.layout.specs.Found.{Found}
use mathlib.Core.List.{List}
use mathlib.Core.Bool.{Bool, true, false, ◌||◌}
use Prim.Native.Nat.{ℕ, suc, ◌+◌, ◌-◌, ◌≤◌, ◌<◌}
use native.Mathlib.Omega.{arith}
use native.Mathlib.Decide.{dec_lt}
use lib.Dec.{leb}
use borrow.Author.Tests.{le-leb, lt-leb}
use Rattle.layout.specs.Records.{◌!◌}
use Rattle.machine.specs.Allowed.{counting, free_within, vectors_in}
use Rattle.machine.specs.States.{free, vector_counts}
use Rattle.machine.specs.Try.{stop}
use Rattle.machine.specs.declared.End.{End}
use Rattle.machine.specs.declared.State.{State}
use Rattle.machine.proofs.Counting.{all-count, counting-same}
use Rattle.store.specs.Counts.{Counted, Frees, FreesVector, free_by, in_use, is_held, one, taken}
use Rattle.store.proofs.Counting.{free_vector_lem, vector-counts}
use Rattle.store.proofs.Free.{free-same}

-- ---- the loop that counts

-- n of the first v places are in use: with those from v on they are all
pub record Upto (c : List ℕ) (v n : ℕ) : Type 0 where
  pub most : v ≤ 64
  pub few : n ≤ v
  pub counted : n + counting (λ j. is_held (c ! j)) (64 - v) v ≡ in_use c

pub upto-none : (c : List ℕ) → Upto c 0 0
unfolding in_use
upto-none c = record { most = omega arith; few = omega arith; counted = none_yet _ _ (ap (λ k. counting (λ j. is_held (c ! j)) k 0) all) }
  where
    all : 64 - 0 ≡ 64
    all = omega arith

    none_yet : (x y : ℕ) → x ≡ y → 0 + x ≡ y
    none_yet x y e = omega (arith, e)

pub upto-on : (c : List ℕ) (v n h : ℕ) → v < 64 → Upto c v n → h ≡ one (is_held (c ! v)) → h ≤ 1 → Upto c (v + 1) (n + h)
unfolding counting
upto-on c v n h l U e b =
    let a = U.few in
    let p : 64 - v ≡ suc (64 - (v + 1)) = omega arith in
    let q = rw p at U.counted in
    let r : suc v ≡ v + 1 = omega arith in
    record { most = omega arith; few = omega arith; counted = subst (λ k. n + h + counting (λ j. is_held (c ! j)) (64 - (v + 1)) k ≡ in_use c) r (moved n h _ _ _ q e) }
  where
    moved : (n h x y z : ℕ) → n + (x + y) ≡ z → h ≡ x → n + h + y ≡ z
    moved n h x y z a b = omega (arith, a, b)

pub upto_all : (c : List ℕ) (v n : ℕ) → 64 ≤ v → Upto c v n → n ≡ in_use c
unfolding counting
upto_all c v n h U =
    let a = U.most in
    let z : 64 - v ≡ 0 = omega arith in
    let q = rw z at U.counted in
    omega (arith, q)

-- ---- a place

twice : (t : Bool) → (t || t) ≡ t
twice true = refl
twice false = refl

-- where all 64 are in use there is none
none_free : (c : List ℕ) → 64 ≤ in_use c → (e : End) → free e (λ i. taken c (0 + i) (0 + i)) 64 0 ≡ stop e
unfolding in_use taken is_held
none_free c h e = free-same e (λ i. taken c (0 + i) (0 + i)) (λ i. is_held (c ! i)) 64 0 (λ j l. let z : 0 + j ≡ j = omega arith in rw z (twice _)) ∙ all-count e (λ i. is_held (c ! i)) 64 0 h

module _ (c : List ℕ) (most : ℕ) where
  -- as many are in use as may be
  pub none_left : most ≤ in_use c → FreesVector None c most
  unfolding FreesVector free_by
  none_left h = rw (le-leb most (in_use c) h, free_by) refl

  -- fewer are
  pub some_left : (r : Found) → in_use c < most → Frees r c 0 0 → FreesVector r c most
  unfolding FreesVector free_by Frees
  some_left (Some v) h F = (rw (lt-leb most (in_use c) h, free_by) (F.0 End.Vectors), F.1)
  some_left None h F = rw (lt-leb most (in_use c) h, free_by) (F End.Vectors)

  -- 64 may be
  pub all_left : (r : Found) → 64 ≤ most → Frees r c 0 0 → FreesVector r c most
  unfolding Frees
  all_left r h F = go (dec_lt (in_use c) most)
    where
      full : (r : Found) → 64 ≤ in_use c → Frees r c 0 0 → r ≡ None
      full (Some v) l F = let o = sym (F.0 End.Vectors) ∙ none_free c l End.Vectors in let z : ◌≡◌ {A = ℕ} 0 1 = cc in absurd (omega arith)
      full None l F = refl

      go : Dec (in_use c < most) → FreesVector r c most
      go (yes l) = some_left r l F
      go (no l) = let m : 64 ≤ in_use c = omega arith in rw (full r m F) (none_left (omega arith))

-- ---- by the counts of a state

module _ (c : List ℕ) (s : State) (C : Counted c s) where
  pub vectors-used : vectors_in s ≡ in_use c
  unfolding vectors_in in_use is_held
  vectors-used = counting-same (vector_counts s) (λ i. is_held (c ! i)) 64 0 (λ j l. vector-counts c s C j (omega arith))

  pub free-within : (most : ℕ) → free_within most s ≡ free_by c most
  unfolding free_within free_by
  free-within most = λ i. elim (leb most (vectors-used i)) [ true ↦ stop End.Vectors | false ↦ free_vector_lem c s C i ]
