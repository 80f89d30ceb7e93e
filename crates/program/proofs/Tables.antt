-- The table of versions, and whether a function has one.
use Rattle.std.specs.Prelude.{None, Some}
use mathlib.Core.Path.{◌≡◌, refl, sym, ap, ◌∙◌, subst}
use Rattle.layout.specs.Found.{Found}
use mathlib.Core.List.{List, [], ◌∷◌, map}
use mathlib.Core.Option.{some}
use mathlib.Core.Bool.{Bool, true, false, cond, ◌||◌}
use Prim.Native.Nat.{ℕ, zero, suc, ◌+◌, ◌-◌, ◌*◌, ◌/◌, ◌%◌, ◌≤◌, ◌<◌}
use native.Mathlib.Nat.{add-zero}
use native.Mathlib.Omega.{arith}
use lib.ListN.{length, get_or, set, length-set, replicate, length-replicate, get_or-replicate}
use lib.Seq.{ext_get_or, get_or-set_same, get_or-set_other}
use lib.Dec.{ltb, eqb}
use borrow.Author.Tests.{eq-eqb, ne_eqb, ltb-true, ltb-false, eqb-true, eqb-false}
use Rattle.layout.specs.Kinds as kind
use Rattle.layout.specs.Tests.{◌and◌, any}
use Rattle.layout.specs.Records.{◌!◌, kind_at, body_at, records}
use Rattle.program.specs.Program.{Version, Program, nowhere, program, find_version, has_function}
use Rattle.program.specs.Places.{view_at, version_at, version_place, offset_of, numbers, table_entry, table_of, slot_of, place_in, listed_in, function_in}
use Rattle.program.proofs.Views.{Whole, at-version, at_block, at-line}
use Rattle.program.proofs.Lookups.{version_from, version-nowhere, version-here, version-later, version-found, is_version}

-- ---- functions

pub function-nowhere : (s : List ℕ) (p f : ℕ) → view_at s p ≡ nowhere → has_function f (view_at s p).versions ≡ false
unfolding any
function-nowhere s p f e = rw e

module _ {s : List ℕ} {p n k : ℕ} (m : Whole s p n k) where
  pub function-here : (f : ℕ) → k ≡ kind.VERSION → body_at s p ! 0 ≡ f → has_function f (view_at s p).versions ≡ true
  unfolding any version_at
  function-here f e h = rw (at-version m e, eq-eqb (body_at s p ! 0) f h)

  pub function-later : (f : ℕ) → k ≡ kind.VERSION → (body_at s p ! 0 ≡ f → ⊥) → has_function f (view_at s p).versions ≡ has_function f (view_at s (p + n)).versions
  unfolding any version_at
  function-later f e h = rw (at-version m e, ne_eqb (body_at s p ! 0) f h)

  pub function-behind : (f : ℕ) → (k ≡ kind.VERSION → ⊥) → has_function f (view_at s p).versions ≡ has_function f (view_at s (p + n)).versions
  function-behind f h = go (eqb k kind.BLOCK) refl
    where
      go : (b : Bool) → eqb k kind.BLOCK ≡ b → has_function f (view_at s p).versions ≡ has_function f (view_at s (p + n)).versions
      go true e = rw (at_block m (eqb-true _ _ e))
      go false e = rw (at-line m h (eqb-false _ _ e))

-- ---- the table

-- f and w are the digits of 4 × f + w
digits : (f w k : ℕ) → w < 4 → (eqb f (k / 4) and eqb w (k % 4)) ≡ eqb (4 * f + w) k
unfolding ◌and◌
digits f w k h = go (eqb (4 * f + w) k) (eqb f (k / 4)) refl refl
  where
    go : (a b : Bool) → eqb (4 * f + w) k ≡ a → eqb f (k / 4) ≡ b → (b and eqb w (k % 4)) ≡ a
    go true true ea eb = eq-eqb w (k % 4) (omega (arith, eqb-true (4 * f + w) k ea))
    go true false ea eb = absurd (eqb-false f (k / 4) eb (omega (arith, eqb-true (4 * f + w) k ea)))
    go false true ea eb = ne_eqb w (k % 4) (λ e. eqb-false (4 * f + w) k ea (omega (arith, eqb-true f (k / 4) eb, e)))
    go false false ea eb = refl

-- a record is the VERSION of an entry exactly when the entry is its own
pub is-version-slot : (s : List ℕ) (p k : ℕ) → k < 128 → is_version s p (k / 4) (k % 4) ≡ eqb (slot_of s p) k
unfolding slot_of ◌and◌
is-version-slot s p k h = go (eqb (kind_at s p) kind.VERSION) (ltb f 32) (ltb w 4) refl refl
  where
    f : ℕ
    f = body_at s p ! 0

    w : ℕ
    w = body_at s p ! 1

    outside : (128 ≡ k → ⊥)
    outside e = absurd (omega arith)

    go : (a b c : Bool) → ltb f 32 ≡ b → ltb w 4 ≡ c → (a and eqb f (k / 4) and eqb w (k % 4)) ≡ eqb (cond (a and b and c) (4 * f + w) 128) k
    go false b c eb ec = sym (ne_eqb 128 k outside)
    go true false c eb ec = rw (ne_eqb f (k / 4) (λ e. absurd (omega (arith, ltb-false f 32 eb)))) (sym (ne_eqb 128 k outside))
    go true true false eb ec = digits-off (eqb f (k / 4)) (ne_eqb w (k % 4) (λ e. absurd (omega (arith, ltb-false w 4 ec)))) ∙ sym (ne_eqb 128 k outside)
      where
        digits-off : (b : Bool) → eqb w (k % 4) ≡ false → (b and eqb w (k % 4)) ≡ false
        digits-off true e = e
        digits-off false e = refl
    go true true true eb ec = digits f w k (ltb-true w 4 ec)

numbers-at : (k n i : ℕ) → i < n → (f : ℕ → ℕ) → get_or (map f (numbers k n)) i 0 ≡ f (k + i)
unfolding numbers
numbers-at k zero i h f = absurd (omega arith)
numbers-at k (suc n) zero h f = rw add-zero
numbers-at k (suc n) (suc i) h f = let e : k + suc i ≡ k + 1 + i = omega arith in rw e (numbers-at (k + 1) n i (omega arith) f)

numbers-length : (k n : ℕ) (f : ℕ → ℕ) → length (map f (numbers k n)) ≡ n
unfolding numbers
numbers-length k zero f = refl
numbers-length k (suc n) f = ap suc (numbers-length (k + 1) n f)

-- the entry k of the table
pub table_at : (s : List ℕ) (k : ℕ) → k < 128 → get_or (table_of s) k 0 ≡ table_entry s k
unfolding table_of
table_at s k h = numbers-at 0 128 k h (table_entry s) ∙ ap (table_entry s) (omega arith)

-- the rest of an entry, where the records from p on are still to be seen and t stands in the table
abbrev rest : List ℕ → ℕ → ℕ → ℕ → ℕ
rest s p k t = cond (eqb t (length s)) (offset_of s (version_from s p (k / 4) (k % 4))) t

-- The table is filled with the versions before p.
pub record Filled (s : List ℕ) (p : ℕ) (t : List ℕ) : Type 0 where
  pub size : length t ≡ 128
  pub entries : (k : ℕ) → k < 128 → table_entry s k ≡ rest s p k (get_or t k 0)

filled-first : (s t : List ℕ) → length t ≡ 128 → ((k : ℕ) → k < 128 → get_or t k 0 ≡ length s) → Filled s 0 t
unfolding table_entry version_from version_place
filled-first s t l h = record { size = l; entries = λ k b. rw (eq-eqb (get_or t k 0) (length s) (h k b)) }

pub filled-last : (s : List ℕ) (p : ℕ) (t : List ℕ) → Filled s p t → view_at s p ≡ nowhere → t ≡ table_of s
unfolding table_of offset_of
filled-last s p t h e = sym (ext_get_or 0 (table_of s) t (numbers-length 0 128 (table_entry s) ∙ sym h.size) (λ k b. at k (subst (λ (n : ℕ). k < n) (numbers-length 0 128 (table_entry s)) b)))
  where
    done : (k : ℕ) (b : Bool) → eqb (get_or t k 0) (length s) ≡ b → cond b (offset_of s None) (get_or t k 0) ≡ get_or t k 0
    done k true x = sym (eqb-true (get_or t k 0) (length s) x)
    done k false x = refl

    at : (k : ℕ) → k < 128 → get_or (table_of s) k 0 ≡ get_or t k 0
    at k b = table_at s k b ∙ h.entries k b ∙ rw (version-nowhere s p (k / 4) (k % 4) e) (done k (eqb (get_or t k 0) (length s)) refl)

module _ {s : List ℕ} {p n : ℕ} {t : List ℕ} (m : Whole s p n (kind_at s p)) (h : Filled s p t) where
  -- an entry that the record at p is not the VERSION of
  later : (k : ℕ) → k < 128 → (slot_of s p ≡ k → ⊥) → version_from s p (k / 4) (k % 4) ≡ version_from s (p + n) (k / 4) (k % 4)
  later k b z = version-later m (k / 4) (k % 4) (is-version-slot s p k b ∙ ne_eqb (slot_of s p) k z)

  pub filled-past : 128 ≤ slot_of s p → Filled s (p + n) t
  filled-past o = record { size = h.size; entries = λ k b. rw (← later k b (omega arith)) (h.entries k b) }

  -- the entry of the record at p is there already
  pub filled-again : slot_of s p < 128 → (get_or t (slot_of s p) 0 ≡ length s → ⊥) → Filled s (p + n) t
  filled-again o z = record { size = h.size; entries = λ k b. go k b (eqb (slot_of s p) k) refl }
    where
      go : (k : ℕ) → k < 128 → (a : Bool) → eqb (slot_of s p) k ≡ a → table_entry s k ≡ rest s (p + n) k (get_or t k 0)
      go k b true e =
          let i : slot_of s p ≡ k = eqb-true (slot_of s p) k e in
          let y : eqb (get_or t k 0) (length s) ≡ false = rw i at (ne_eqb (get_or t (slot_of s p) 0) (length s) z) in
          h.entries k b ∙ simp y
      go k b false e = rw (← later k b (eqb-false (slot_of s p) k e)) (h.entries k b)

  -- or is put there
  pub filled-here : slot_of s p < 128 → get_or t (slot_of s p) 0 ≡ length s → Filled s (p + n) (set t (slot_of s p) p)
  unfolding offset_of
  filled-here o z = record { size = simp length-set h.size; entries = λ k b. go k b (eqb (slot_of s p) k) refl }
    where
      go : (k : ℕ) → k < 128 → (a : Bool) → eqb (slot_of s p) k ≡ a → table_entry s k ≡ rest s (p + n) k (get_or (set t (slot_of s p) p) k 0)
      go k b true e =
          let i : k ≡ slot_of s p = sym (eqb-true (slot_of s p) k e) in
          let there : get_or (set t (slot_of s p) p) k 0 ≡ p = rw i (get_or-set_same t (slot_of s p) p 0 (rw h.size o)) in
          let was : get_or t k 0 ≡ length s = rw i z in
          let found : version_from s p (k / 4) (k % 4) ≡ Some p = version-here m (k / 4) (k % 4) (is-version-slot s p k b ∙ e) in
          let inside : eqb p (length s) ≡ false = ne_eqb p (length s) (λ y. absurd (omega (arith, m.inside))) in
          h.entries k b ∙ simp (eq-eqb (get_or t k 0) (length s) was, found, there, inside)
      go k b false e =
          let other : get_or (set t (slot_of s p) p) k 0 ≡ get_or t k 0 = get_or-set_other t (slot_of s p) k p 0 (λ y. eqb-false (slot_of s p) k e (sym y)) in
          rw (other, ← later k b (eqb-false (slot_of s p) k e)) (h.entries k b)

-- ---- look-up in the table

-- the entry of the version w of the function f
listed_at : (s t : List ℕ) (f w : ℕ) → t ≡ table_of s → f < 32 → w < 4 → offset_of s (version_place s f w) ≡ get_or t (4 * f + w) 0
unfolding table_entry
listed_at s t f w e hf hw =
    let i : (4 * f + w) / 4 ≡ f = omega arith in
    let j : (4 * f + w) % 4 ≡ w = omega arith in
    sym (ap (λ (l : List ℕ). get_or l (4 * f + w) 0) e ∙ table_at s (4 * f + w) (omega arith) ∙ simp (i, j))

offset-inside : (s : List ℕ) (o : Found) (q : ℕ) → offset_of s o ≡ q → q < length s → o ≡ Some q
unfolding offset_of
offset-inside s None q e h = absurd (omega arith)
offset-inside s (Some p) q e h = ap Some e

offset-outside : (s : List ℕ) (f w : ℕ) → length s ≤ offset_of s (version_place s f w) → version_place s f w ≡ None
unfolding offset_of
offset-outside s f w h = go (version_place s f w) refl h
  where
    go : (o : Found) → version_place s f w ≡ o → length s ≤ offset_of s o → version_place s f w ≡ None
    go None e l = e
    go (Some p) e l = absurd (omega (arith, (version-found s f w p e).1))

find-function : (P : Program) (f w : ℕ) (v : Version) → find_version P f w ≡ some v → has_function f P ≡ true
unfolding find_version any ◌and◌
find-function [] f w v e = let z : ◌≡◌ {A = ℕ} 0 1 = cc in absurd (omega arith)
find-function (x ∷ P) f w v e = go (eqb x.function f) (eqb x.version w) (λ g. find-function P f w v g) e
  where
    go : (a b : Bool) → (find_version P f w ≡ some v → has_function f P ≡ true) → cond (a and b) (some x) (find_version P f w) ≡ some v → (a || has_function f P) ≡ true
    go true b ih g = refl
    go false b ih g = ih g

function-listed : (s : List ℕ) (f w q : ℕ) → version_place s f w ≡ Some q → has_function f (program (records s)) ≡ true
function-listed s f w q e = find-function (program (records s)) f w (version_at s q) (version-found s f w q e).0

-- a table in which every entry is the image length
pub filled-empty : (s : List ℕ) → Filled s 0 (replicate 128 (length s))
filled-empty s = filled-first s (replicate 128 (length s)) (length-replicate 128 (length s)) (λ k h. get_or-replicate 128 k (length s) 0 h)

-- THE LAW of the table: by the image's own table each version and each function is found
pub listed-right : (s t : List ℕ) (f w : ℕ) → t ≡ table_of s → listed_in s t f w ≡ version_place s f w
unfolding listed_in place_in ◌and◌
listed-right s t f w e = go (ltb f 32) (ltb w 4) refl refl
  where
    place : (b : Bool) → ltb (get_or t (4 * f + w) 0) (length s) ≡ b → f < 32 → w < 4 → cond b (Some (get_or t (4 * f + w) 0)) None ≡ version_place s f w
    place true x hf hw = sym (offset-inside s (version_place s f w) (get_or t (4 * f + w) 0) (listed_at s t f w e hf hw) (ltb-true (get_or t (4 * f + w) 0) (length s) x))
    place false x hf hw = sym (offset-outside s f w (omega (arith, listed_at s t f w e hf hw, ltb-false (get_or t (4 * f + w) 0) (length s) x)))

    go : (a b : Bool) → ltb f 32 ≡ a → ltb w 4 ≡ b → cond (a and b) (cond (ltb (get_or t (4 * f + w) 0) (length s)) (Some (get_or t (4 * f + w) 0)) None) (version_place s f w) ≡ version_place s f w
    go true true ea eb = place (ltb (get_or t (4 * f + w) 0) (length s)) refl (ltb-true f 32 ea) (ltb-true w 4 eb)
    go true false ea eb = refl
    go false b ea eb = refl

pub function-right : (s t : List ℕ) (f : ℕ) → t ≡ table_of s → function_in s t f ≡ has_function f (program (records s))
unfolding function_in ◌and◌
function-right s t f e = go (ltb f 32) (ltb (get_or t (4 * f) 0) (length s)) refl refl
  where
    go : (a b : Bool) → ltb f 32 ≡ a → ltb (get_or t (4 * f) 0) (length s) ≡ b → cond (a and b) true (has_function f (program (records s))) ≡ has_function f (program (records s))
    go true true ea eb =
        let l : offset_of s (version_place s f 0) ≡ get_or t (4 * f) 0 = rw add-zero at (listed_at s t f 0 e (ltb-true f 32 ea) (omega arith)) in
        sym (function-listed s f 0 (get_or t (4 * f) 0) (offset-inside s (version_place s f 0) (get_or t (4 * f) 0) l (ltb-true (get_or t (4 * f) 0) (length s) eb)))
    go true false ea eb = refl
    go false b ea eb = refl
