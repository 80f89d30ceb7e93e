-- The numbers that the code keeps stand for the rows that are listed.
use Rattle.std.specs.Prelude.{None, Some}
use mathlib.Core.Path.{◌≡◌, refl, sym, ap, ◌∙◌}
use Rattle.layout.specs.Found.{Found}
use mathlib.Core.Logic.{◌⊎◌, inl, inr}
use mathlib.Core.List.{List, [], ◌∷◌, ◌++◌}
use mathlib.Core.Option.{Option, none, some}
use mathlib.Core.Bool.{Bool, true, false, cond, not, ◌||◌}
use Prim.Native.Nat.{ℕ, zero, suc, ◌+◌, ◌*◌, ◌/◌, ◌%◌, ◌≤◌, ◌<◌}
use native.Mathlib.Omega.{arith}
use lib.ListN.{length, set, length-set}
use lib.Seq.{get_or-set_same, get_or-set_other}
use lib.Dec.{eqb, ltb}
use borrow.Author.Tests.{eq-eqb, ne_eqb, eqb-true, eqb-false, lt-ltb, le-ltb, ltb-true, ltb-false}
use Rattle.layout.specs.Records.{◌!◌}
use Rattle.layout.specs.Tests.{◌and◌, all, any}
use Rattle.layout.proofs.Bools.{and-on, and-off, and_both}
use Rattle.program.specs.Places.{version_at, table_of}
use Rattle.program.specs.Program.{Version, Program}
use Rattle.program.proofs.Held.{find-numbers}
use Rattle.machine.specs.Begin.{program_of}
use Rattle.bounds.specs.Bounds.{dependencies, steps_of, Row, same, is_listed, bound_in, is_free, first_of}
use Rattle.bounds.specs.Sums.{cap}
use Rattle.bounds.specs.Counts.{kept, kept_at, has, below, Keeps, Counted, first_place, open_at, free_at, number_in, Stands}
use Rattle.bounds.proofs.Caps.{cap-steps}
use Rattle.bounds.proofs.Listing.{all-mem, steps-same}
use Rattle.bounds.proofs.Slots.{slot, slots, slot-there, slot-missing, slots-there, slots-missing}

-- ---- the number of a version is what its row says

number_is : (rows : List Row) (v : Version) → number_in rows v.function v.version ≡ cond (is_listed rows v) (suc (cap (bound_in rows v))) 0
unfolding number_in is_listed any bound_in same
number_is [] v = refl
number_is (r ∷ rows) v = go (eqb r.version.function v.function and eqb r.version.version v.version) (number_is rows v)
  where
    go : (b : Bool) → number_in rows v.function v.version ≡ cond (is_listed rows v) (suc (cap (bound_in rows v))) 0
        → cond b (suc (cap r.steps)) (number_in rows v.function v.version) ≡ cond (b || any (λ (x : Row). same x.version v) rows) (suc (cap (cond b r.steps (bound_in rows v)))) 0
    go true ih = refl
    go false ih = ih

-- a test of a number
cond-some : (b : Bool) (n : ℕ) → not (eqb (cond b (suc n) 0) 0) ≡ b
cond-some true n = ap not (ne_eqb (suc n) 0 (λ z. absurd (omega arith)))
cond-some false n = refl

cond-none : (b : Bool) (n : ℕ) → eqb (cond b (suc n) 0) 0 ≡ not b
cond-none true n = ne_eqb (suc n) 0 (λ z. absurd (omega arith))
cond-none false n = refl

all_same : {A : Type 0} (p q : A → Bool) (l : List A) → ((x : A) → p x ≡ q x) → all p l ≡ all q l
unfolding all
all_same p q [] h = refl
all_same p q (x ∷ l) h = rw (h x, all_same p q l h) refl

module _ (known : List ℕ) (rows : List Row) (stands : Stands known rows) where
  kept-number : (f w : ℕ) → kept_at known f w ≡ number_in rows f w
  unfolding kept_at ◌and◌
  kept-number f w = go (ltb f 32) (ltb w 4) refl refl
    where
      none-there : (n : ℕ) → number_in rows f w ≡ n → ((f < 32) × (w < 4) → ⊥) → 0 ≡ number_in rows f w
      none-there zero e h = sym e
      none-there (suc n) e h = absurd (h (stands.small f w (λ (z : number_in rows f w ≡ 0). absurd (omega (arith, z, e)))))

      go : (a b : Bool) → ltb f 32 ≡ a → ltb w 4 ≡ b → cond (a and b) (known ! (4 * f + w)) 0 ≡ number_in rows f w
      go true true ea eb =
          let hf = ltb-true f 32 ea in
          let hw = ltb-true w 4 eb in
          let i : (4 * f + w) / 4 ≡ f = omega arith in
          let j : (4 * f + w) % 4 ≡ w = omega arith in
          stands.is (4 * f + w) (omega arith) ∙ rw (i, j) refl
      go true false ea eb = none-there _ refl (λ h. absurd (omega (arith, h.1, ltb-false w 4 eb)))
      go false b ea eb = none-there _ refl (λ h. absurd (omega (arith, h.0, ltb-false f 32 ea)))

  pub kept-is : (v : Version) → kept known v ≡ cond (is_listed rows v) (suc (cap (bound_in rows v))) 0
  kept-is v = kept-number v.function v.version ∙ number_is rows v

  pub has-is : (v : Version) → has (kept known) v ≡ is_listed rows v
  has-is v = rw (kept-is v) (cond-some (is_listed rows v) (cap (bound_in rows v)))

  pub has_all : (vs : List Version) → all (has (kept known)) vs ≡ all (is_listed rows) vs
  has_all vs = all_same (has (kept known)) (is_listed rows) vs has-is

  -- the steps of a version whose dependencies are listed
  pub kept-steps : (P : Program) (v : Version) → all (is_listed rows) (dependencies P v) ≡ true → cap (steps_of P (below (kept known)) v) ≡ cap (steps_of P (bound_in rows) v)
  kept-steps P v h = ap cap (steps-same P (below (kept known)) (λ u. cap (bound_in rows u)) v (λ X m. rw (kept-is X, all-mem (is_listed rows) (dependencies P v) X h m) (omega arith))) ∙ cap-steps P (bound_in rows) v

  -- ---- the first that is free

  module _ (s : List ℕ) where
    abbrev P : Program
    P = program_of s

    -- the version at a place
    unfoldable pub found_at : Found → Option Version
    found_at None = none
    found_at (Some k) = some (version_at s (table_of s ! k))

    pub open_is : (k : ℕ) (v : Version) → k < 128 → slot P k ≡ some v → eqb (known ! k) 0 ≡ not (is_listed rows v)
    open_is k v h e =
        let n = find-numbers P (k / 4) (k % 4) v e in
        let z : known ! k ≡ number_in rows v.function v.version = stands.is k h ∙ rw (n.0, n.1) refl in
        rw (z, number_is rows v) (cond-none (is_listed rows v) (cap (bound_in rows v)))

    pub free-is : (k : ℕ) → k < 128 → table_of s ! k < length s → free_at s known k ≡ is_free P rows (version_at s (table_of s ! k))
    unfolding free_at open_at is_free
    free-is k h l =
        rw (has_all (dependencies P (version_at s (table_of s ! k))), and-on (eqb (known ! k) 0) (lt-ltb (table_of s ! k) (length s) l), open_is k (version_at s (table_of s ! k)) h (slot-there s k h l)) refl

    free-none : (k : ℕ) → length s ≤ table_of s ! k → free_at s known k ≡ false
    unfolding free_at open_at
    free-none k l = and-off _ (and-off _ (le-ltb (table_of s ! k) (length s) l))

    pub first-free : (n k : ℕ) → k + n ≤ 128 → first_of (is_free P rows) (slots P n k) ≡ found_at (first_place (free_at s known) n k)
    unfolding slots first_of first_place found_at
    first-free zero k h = refl
    first-free (suc n) k h = go (ltb (table_of s ! k) (length s)) refl (first-free n (k + 1) (omega arith))
      where
        go : (b : Bool) → ltb (table_of s ! k) (length s) ≡ b → first_of (is_free P rows) (slots P n (k + 1)) ≡ found_at (first_place (free_at s known) n (k + 1))
            → first_of (is_free P rows) (slots P (suc n) k) ≡ found_at (cond (free_at s known k) (Some k) (first_place (free_at s known) n (k + 1)))
        go true e ih =
            let l = ltb-true (table_of s ! k) (length s) e in
            rw (slots-there P n k _ (slot-there s k (omega arith) l), free-is k (omega arith) l) (pick (is_free P rows (version_at s (table_of s ! k))) ih)
          where
            pick : (b : Bool) → first_of (is_free P rows) (slots P n (k + 1)) ≡ found_at (first_place (free_at s known) n (k + 1)) → cond b (some (version_at s (table_of s ! k))) (first_of (is_free P rows) (slots P n (k + 1))) ≡ found_at (cond b (Some k) (first_place (free_at s known) n (k + 1)))
            pick true q = refl
            pick false q = q
        go false e ih =
            let l = ltb-false (table_of s ! k) (length s) e in
            rw (slots-missing P n k (slot-missing s k (omega arith) l), free-none k l) ih

-- ---- none is listed, and one more is

number-none : (f w : ℕ) → number_in [] f w ≡ 0
unfolding number_in
number-none f w = refl

pub stands-none : (known : List ℕ) → length known ≡ 128 → ((k : ℕ) → k < 128 → known ! k ≡ 0) → Stands known []
unfolding number_in
stands-none known e h = record { size = e; is = λ k l. h k l; small = λ f w z. absurd (z refl) }

-- of one more row behind
number_more : (rows : List Row) (r : Row) (f w : ℕ) → (number_in (rows ++ (r ∷ [])) f w ≡ number_in rows f w) ⊎ ((r.version.function ≡ f) × (r.version.version ≡ w) × (number_in rows f w ≡ 0) × (number_in (rows ++ (r ∷ [])) f w ≡ suc (cap r.steps)))
unfolding number_in
number_more [] r f w = go (eqb r.version.function f and eqb r.version.version w) refl
  where
    go : (b : Bool) → (eqb r.version.function f and eqb r.version.version w) ≡ b → (cond b (suc (cap r.steps)) 0 ≡ 0) ⊎ ((r.version.function ≡ f) × (r.version.version ≡ w) × (◌≡◌ {A = ℕ} 0 0) × (cond b (suc (cap r.steps)) 0 ≡ suc (cap r.steps)))
    go true e = let a = and_both _ _ e in inr (eqb-true r.version.function f a.0, eqb-true r.version.version w a.1, refl, refl)
    go false e = inl refl
number_more (x ∷ rows) r f w = go (eqb x.version.function f and eqb x.version.version w) (number_more rows r f w)
  where
    go : (b : Bool) → (number_in (rows ++ (r ∷ [])) f w ≡ number_in rows f w) ⊎ ((r.version.function ≡ f) × (r.version.version ≡ w) × (number_in rows f w ≡ 0) × (number_in (rows ++ (r ∷ [])) f w ≡ suc (cap r.steps)))
        → (cond b (suc (cap x.steps)) (number_in (rows ++ (r ∷ [])) f w) ≡ cond b (suc (cap x.steps)) (number_in rows f w)) ⊎ ((r.version.function ≡ f) × (r.version.version ≡ w) × (cond b (suc (cap x.steps)) (number_in rows f w) ≡ 0) × (cond b (suc (cap x.steps)) (number_in (rows ++ (r ∷ [])) f w) ≡ suc (cap r.steps)))
    go true ih = inl refl
    go false ih = ih

-- behind rows that do not name it
number-new : (rows : List Row) (r : Row) → number_in rows r.version.function r.version.version ≡ 0 → number_in (rows ++ (r ∷ [])) r.version.function r.version.version ≡ suc (cap r.steps)
unfolding number_in ◌and◌
number-new [] r z = rw (eq-eqb r.version.function r.version.function refl, eq-eqb r.version.version r.version.version refl) refl
number-new (x ∷ rows) r z = go (eqb x.version.function r.version.function and eqb x.version.version r.version.version) z (number-new rows r)
  where
    go : (b : Bool) → cond b (suc (cap x.steps)) (number_in rows r.version.function r.version.version) ≡ 0
        → (number_in rows r.version.function r.version.version ≡ 0 → number_in (rows ++ (r ∷ [])) r.version.function r.version.version ≡ suc (cap r.steps))
        → cond b (suc (cap x.steps)) (number_in (rows ++ (r ∷ [])) r.version.function r.version.version) ≡ suc (cap r.steps)
    go true q ih = absurd (omega (arith, q))
    go false q ih = ih q

module _ (known : List ℕ) (rows : List Row) (stands : Stands known rows) (k : ℕ) (h : k < 128) (zero-there : known ! k ≡ 0) where
  -- the numbers that there were stay
  pub set_keeps : (x : ℕ) → Keeps (kept known) (kept (set known k x))
  unfolding kept_at ◌and◌
  set_keeps x v z = go (ltb v.function 32) (ltb v.version 4) refl refl z
    where
      slotted : ℕ
      slotted = 4 * v.function + v.version

      go : (a b : Bool) → ltb v.function 32 ≡ a → ltb v.version 4 ≡ b → (cond (a and b) (known ! slotted) 0 ≡ 0 → ⊥) → cond (a and b) (set known k x ! slotted) 0 ≡ cond (a and b) (known ! slotted) 0
      go true true ea eb q = get_or-set_other known k slotted x 0 (λ (e : slotted ≡ k). q (ap (λ (i : ℕ). known ! i) e ∙ zero-there))
      go true false ea eb q = refl
      go false b ea eb q = refl

  -- and one more row stands for one more number
  pub stands-more : (r : Row) → r.version.function ≡ k / 4 → r.version.version ≡ k % 4 → (n : ℕ) → n ≡ suc (cap r.steps) → Stands (set known k n) (rows ++ (r ∷ []))
  stands-more r ef ew n en = record { size = length-set known k n ∙ stands.size; is = λ j l. is j l (eqb j k) refl; small = small }
    where
      was : number_in rows r.version.function r.version.version ≡ 0
      was = rw (ef, ew) (sym (stands.is k h) ∙ zero-there)

      is : (j : ℕ) → j < 128 → (b : Bool) → eqb j k ≡ b → set known k n ! j ≡ number_in (rows ++ (r ∷ [])) (j / 4) (j % 4)
      is j l true e =
          let z : j ≡ k = eqb-true j k e in
          let y : set known k n ! k ≡ n = get_or-set_same known k n 0 (omega (arith, stands.size, h)) in
          rw (z, y, ← ef, ← ew) (en ∙ sym (number-new rows r was))
      is j l false e =
          let z : set known k n ! j ≡ known ! j = get_or-set_other known k j n 0 (eqb-false j k e) in
          rw z (stands.is j l ∙ go (number_more rows r (j / 4) (j % 4)))
        where
          go : (number_in (rows ++ (r ∷ [])) (j / 4) (j % 4) ≡ number_in rows (j / 4) (j % 4)) ⊎ ((r.version.function ≡ j / 4) × (r.version.version ≡ j % 4) × (number_in rows (j / 4) (j % 4) ≡ 0) × (number_in (rows ++ (r ∷ [])) (j / 4) (j % 4) ≡ suc (cap r.steps)))
              → number_in rows (j / 4) (j % 4) ≡ number_in (rows ++ (r ∷ [])) (j / 4) (j % 4)
          go (inl q) = sym q
          go (inr q) = absurd (eqb-false j k e (omega (arith, q.0, q.1, ef, ew)))

      small : (f w : ℕ) → (number_in (rows ++ (r ∷ [])) f w ≡ 0 → ⊥) → (f < 32) × (w < 4)
      small f w z = go (number_more rows r f w)
        where
          go : (number_in (rows ++ (r ∷ [])) f w ≡ number_in rows f w) ⊎ ((r.version.function ≡ f) × (r.version.version ≡ w) × (number_in rows f w ≡ 0) × (number_in (rows ++ (r ∷ [])) f w ≡ suc (cap r.steps))) → (f < 32) × (w < 4)
          go (inl q) = stands.small f w (λ (y : number_in rows f w ≡ 0). z (q ∙ y))
          go (inr q) = (omega (arith, q.0, ef, h), omega (arith, q.1, ew))

-- ---- counts stay when more is listed

pub counted-more : (s known more : List ℕ) (v p n : ℕ) → Keeps (kept known) (kept more) → Counted s known v p n → Counted s more v p n
counted-more s known more v p n keeps c = record { room = c.room; left = λ h i. c.left h (λ x z. on h i x z) }
  where
    on : (h : Version → ℕ) → Keeps (kept more) h → (x : Version) → (kept known x ≡ 0 → ⊥) → h x ≡ kept known x
    on h i x z = i x (λ (q : kept more x ≡ 0). z (sym (keeps x z) ∙ q)) ∙ keeps x z
