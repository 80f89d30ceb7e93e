-- Where counts begin and go on, the first that is free, and the rows as they are written: what a turn of each loop does.
use Rattle.std.specs.Prelude.{None, Some}
use mathlib.Core.Path.{◌≡◌, refl, sym, ap, ◌∙◌, subst}
use mathlib.Core.List.{List, [], ◌∷◌}
use mathlib.Core.Bool.{Bool, true, false}
use Prim.Native.Nat.{ℕ, suc, ◌+◌, ◌-◌, ◌*◌, ◌/◌, ◌%◌, ◌≤◌, ◌<◌}
use native.Mathlib.Nat.{add-zero}
use native.Mathlib.Omega.{arith}
use lib.ListN.{length, set, length-set}
use lib.Seq.{get_or-set_same, get_or-set_other}
use lib.Dec.{eqb}
use borrow.Author.Tests.{eqb-true, eqb-false, lt-ltb, le-ltb, ltb-true}
use Rattle.layout.specs.Records.{◌!◌, size_at}
use Rattle.layout.proofs.Bools.{and-on, and-off, and_both}
use Rattle.program.specs.Places.{view_at, version_at, table_of, is_line}
use Rattle.program.proofs.Views.{view-end, at-line, is-lined}
use Rattle.machine.specs.Begin.{program_of}
use Rattle.bounds.specs.Bounds.{steps_in, steps_of, unbounded, Entry}
use Rattle.bounds.specs.Sums.{LIMIT, cap}
use Rattle.bounds.specs.Counts.{kept, below, lines_in, steps_ahead, Left, Counted, Begin, Goes, first_place, open_at, free_at, Ready, Begins, Worth}
use Rattle.bounds.specs.Rows.{code_of, numbers_after, steps_after, rest_from}
use Rattle.bounds.specs.declared.Count.{Count}
use Rattle.bounds.proofs.Caps.{Capped, whole, full, capped}

-- ---- where a count begins

pub begin-outside : (s : List ℕ) (v : ℕ) → length s ≤ v → Begin s v v
unfolding version_at
begin-outside s v h = record { code = rw (view-end s v h) refl; blocks = rw (view-end s v h, view-end s (v + size_at s v) (omega arith)) refl }

pub begin-first : (s : List ℕ) (v : ℕ) {n : ℕ} → n ≡ size_at s v → (view_at s (v + n)).blocks ≡ (version_at s v).blocks
unfolding version_at
begin-first s v e = rw e refl

pub begin-on : (s : List ℕ) (p : ℕ) {n : ℕ} → n ≡ size_at s p → is_line s p ≡ true → (view_at s (p + n)).blocks ≡ (view_at s p).blocks
begin-on s p {n} e h =
    let l = is-lined s p h in
    sym (rw (at-line {n = n} (record { inside = l.inside; size = e; whole = λ (z : n ≡ 0). l.whole (sym e ∙ z); kind = refl }) l.no_version l.no_block) refl)

pub begins-none : (s places : List ℕ) → length places ≡ 128 → Begins s places 0
begins-none s places e = record { placed = e; each = λ k h. absurd (omega arith) }

pub begins-more : (s places : List ℕ) (k : ℕ) → k < 128 → Begins s places k → {v x : ℕ} → v ≡ table_of s ! k → Begin s v x → Begins s (set places k x) (k + 1)
begins-more s places k h b {v} {x} e y = record { placed = length-set places k x ∙ b.placed; each = λ j l t. go j l t (eqb j k) refl }
  where
    go : (j : ℕ) → j < k + 1 → table_of s ! j < length s → (q : Bool) → eqb j k ≡ q → Begin s (table_of s ! j) (set places k x ! j)
    go j l t true q =
        let z : j ≡ k = eqb-true j k q in
        let i : set places k x ! k ≡ x = get_or-set_same places k x 0 (omega (arith, b.placed)) in
        rw (z, i, ← e) y
    go j l t false q =
        let n = eqb-false j k q in
        let i : set places k x ! j ≡ places ! j = get_or-set_other places k j x 0 n in
        rw i (b.each j (omega (arith, n)) t)

-- ---- places that are open

pub entry-is : {t u : List ℕ} → t ≡ u → (k : ℕ) → t ! k ≡ u ! k
entry-is e k = ap (λ (l : List ℕ). l ! k) e

module _ (s known : List ℕ) (k : ℕ) {t : ℕ} (tabled : t ≡ table_of s ! k) where
  pub open-there : t < length s → eqb (known ! k) 0 ≡ open_at s known k
  unfolding open_at
  open-there h = sym (and-on _ (lt-ltb (table_of s ! k) (length s) (rw (← tabled) h)))

  pub open_none : length s ≤ t → false ≡ open_at s known k
  unfolding open_at
  open_none h = sym (and-off _ (le-ltb (table_of s ! k) (length s) (rw (← tabled) h)))

-- ---- the first that is free

module _ (p : ℕ → Bool) (k : ℕ) (h : k < 128) where
  pub first-here : p k ≡ true → first_place p (128 - k) k ≡ Some k
  unfolding first_place
  first-here e = let z : 128 - k ≡ suc (128 - (k + 1)) = omega arith in rw (z, e) refl

  pub first-later : p k ≡ false → first_place p (128 - k) k ≡ first_place p (128 - (k + 1)) (k + 1)
  unfolding first_place
  first-later e = let z : 128 - k ≡ suc (128 - (k + 1)) = omega arith in rw (z, e) refl

pub first-none : (p : ℕ → Bool) (k : ℕ) → 128 ≤ k → first_place p (128 - k) k ≡ None
unfolding first_place
first-none p k h = let z : 128 - k ≡ 0 = omega arith in rw z refl

pub free-shut : (s known : List ℕ) (k : ℕ) → open_at s known k ≡ false → free_at s known k ≡ false
unfolding free_at
free-shut s known k e = and-off _ e

-- a number that is capped already
capped-room : (n : ℕ) → n ≤ LIMIT → cap n ≡ n
capped-room n h = go (capped n)
  where
    go : Capped n → cap n ≡ n
    go (whole l e) = e
    go (full l e) = e ∙ (omega (arith, l, h))

module _ (s known places sums : List ℕ) (ready : Ready s known places sums) (k : ℕ) (h : k < 128) (there : open_at s known k ≡ true) {v : ℕ} (tabled : v ≡ table_of s ! k) {r : Count} (went : Goes s known v (places ! k) (sums ! k) r) where
  inside : table_of s ! k < length s
  unfolding open_at
  inside = ltb-true _ _ (and_both _ _ there).0

  goes : Goes s known (table_of s ! k) (places ! k) (sums ! k) r
  goes = subst (λ (x : ℕ). Goes s known x (places ! k) (sums ! k) r) tabled went

  now-counted : Counted s known (table_of s ! k) r.at r.steps
  now-counted = goes.counted (ready.each k h inside)

  now-left : Left (program_of s) (version_at s (table_of s ! k)) (kept known) (view_at s r.at) r.steps
  now-left = now-counted.left (kept known) (λ x z. refl)

  pub ready-next : Ready s known (set places k r.at) (set sums k r.steps)
  ready-next = record { placed = length-set places k r.at ∙ ready.placed; summed = length-set sums k r.steps ∙ ready.summed; each = λ j l t. go j l t (eqb j k) refl }
    where
      go : (j : ℕ) → j < 128 → table_of s ! j < length s → (q : Bool) → eqb j k ≡ q → Counted s known (table_of s ! j) (set places k r.at ! j) (set sums k r.steps ! j)
      go j l t true q =
          let z : j ≡ k = eqb-true j k q in
          let x : set places k r.at ! k ≡ r.at = get_or-set_same places k r.at 0 (omega (arith, ready.placed)) in
          let y : set sums k r.steps ! k ≡ r.steps = get_or-set_same sums k r.steps 0 (omega (arith, ready.summed)) in
          rw (z, x, y) now-counted
      go j l t false q =
          let n = eqb-false j k q in
          let x : set places k r.at ! j ≡ places ! j = get_or-set_other places k j r.at 0 n in
          let y : set sums k r.steps ! j ≡ sums ! j = get_or-set_other sums k j r.steps 0 n in
          rw (x, y) (ready.each j l t)

  free-now : free_at s known k ≡ r.whole
  unfolding free_at
  free-now = and-on _ there ∙ now-left.needs ∙ sym goes.stays

  pub free-yes : r.whole ≡ true → free_at s known k ≡ true
  free-yes e = free-now ∙ e

  pub free-no : r.whole ≡ false → free_at s known k ≡ false
  free-no e = free-now ∙ e

  pub worth-now : r.whole ≡ true → Worth s known (set sums k r.steps) (Some k)
  unfolding Worth steps_ahead lines_in steps_in
  worth-now e =
      let o = goes.whole e in
      let y : set sums k r.steps ! k ≡ r.steps = get_or-set_same sums k r.steps 0 (omega (arith, ready.summed)) in
      let z : cap (steps_of (program_of s) (below (kept known)) (version_at s (table_of s ! k))) ≡ cap (r.steps + 0) = now-left.steps ∙ rw (o.code, o.blocks) refl in
      (h, free-yes e, y ∙ sym (z ∙ ap cap (add-zero r.steps) ∙ capped-room r.steps now-counted.room))

-- ---- rows

module _ (s known : List ℕ) (k : ℕ) (h : k < 128) where
  pub rest-open : open_at s known k ≡ true → rest_from s known (128 - k) k ≡ record { function = k / 4; version = k % 4; bound = unbounded } ∷ rest_from s known (128 - (k + 1)) (k + 1)
  unfolding rest_from
  rest-open e = let z : 128 - k ≡ suc (128 - (k + 1)) = omega arith in rw (z, e) refl

  pub rest-shut : open_at s known k ≡ false → rest_from s known (128 - k) k ≡ rest_from s known (128 - (k + 1)) (k + 1)
  unfolding rest_from
  rest-shut e = let z : 128 - k ≡ suc (128 - (k + 1)) = omega arith in rw (z, e) refl

pub rest-last : (s known : List ℕ) (k : ℕ) → 128 ≤ k → rest_from s known (128 - k) k ≡ []
unfolding rest_from
rest-last s known k h = let z : 128 - k ≡ 0 = omega arith in rw z refl

-- the rest is written
pub record Rest (s known : List ℕ) (numbers₀ steps₀ : List ℕ) (from : ℕ) (numbers steps : List ℕ) (row k : ℕ) : Type 0 where
  pub few : k ≤ 128
  pub rows : row + length (rest_from s known (128 - k) k) ≡ from + length (rest_from s known 128 0)
  pub numbered : numbers_after numbers row (rest_from s known (128 - k) k) ≡ numbers_after numbers₀ from (rest_from s known 128 0)
  pub counted : steps_after steps row (rest_from s known (128 - k) k) ≡ steps_after steps₀ from (rest_from s known 128 0)

pub rest-begins : (s known numbers steps : List ℕ) (from : ℕ) → Rest s known numbers steps from numbers steps from 0
rest-begins s known numbers steps from = record { few = omega arith; rows = refl; numbered = refl; counted = refl }

module _ (s known numbers₀ steps₀ : List ℕ) (from : ℕ) (numbers steps : List ℕ) (row k : ℕ) (rest : Rest s known numbers₀ steps₀ from numbers steps row k) where
  module _ (h : k < 128) where
    pub rest-room : open_at s known k ≡ true → from + length (rest_from s known 128 0) ≤ 64 → row < 64
    rest-room e l = omega (arith, ap (λ (es : List Entry). length es) (rest-open s known k h e), rest.rows)

    pub rest-next : open_at s known k ≡ true → {ns ss : List ℕ} → (ns ≡ set (set numbers (2 * row) (k / 4)) (2 * row + 1) (k % 4)) × (ss ≡ set steps row 4294967297) → Rest s known numbers₀ steps₀ from ns ss (row + 1) (k + 1)
    unfolding numbers_after steps_after code_of
    rest-next e w = record {
      few = omega arith;
      rows = omega (arith, ap (λ (es : List Entry). length es) (rest-open s known k h e), rest.rows);
      numbered = rw w.0 ((rw (rest-open s known k h e) at rest.numbered));
      counted = rw w.1 ((rw (rest-open s known k h e) at rest.counted));
    }

    pub rest-past : open_at s known k ≡ false → Rest s known numbers₀ steps₀ from numbers steps row (k + 1)
    rest-past e = record {
      few = omega arith;
      rows = rw (rest-shut s known k h e) at rest.rows;
      numbered = rw (rest-shut s known k h e) at rest.numbered;
      counted = rw (rest-shut s known k h e) at rest.counted;
    }

  pub rest-done : 128 ≤ k → (row ≡ from + length (rest_from s known 128 0)) × (numbers ≡ numbers_after numbers₀ from (rest_from s known 128 0)) × (steps ≡ steps_after steps₀ from (rest_from s known 128 0))
  unfolding numbers_after steps_after
  rest-done h = (omega (arith, ap (λ (es : List Entry). length es) (rest-last s known k h), rest.rows), rw (rest-last s known k h) at rest.numbered, rw (rest-last s known k h) at rest.counted)
