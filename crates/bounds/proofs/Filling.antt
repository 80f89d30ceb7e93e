-- The loop that lists: the rows so far, and what is left of the list, come to the same.
use Rattle.std.specs.Prelude.{None, Some}
use mathlib.Core.Path.{◌≡◌, refl, sym, ap, ◌∙◌, subst}
use Rattle.layout.specs.Found.{Found}
use mathlib.Core.List.{List, [], ◌∷◌, ◌++◌, map}
use mathlib.Core.Option.{some}
use mathlib.Core.Bool.{true, cond}
use Prim.Native.Nat.{ℕ, suc, ◌+◌, ◌-◌, ◌*◌, ◌/◌, ◌%◌, ◌≤◌, ◌<◌}
use native.Mathlib.Nat.{zero-add}
use native.Mathlib.Numerals.{add-one}
use native.Mathlib.Omega.{arith}
use lib.ListN.{length, set, length-append}
use lib.Dec.{ltb}
use borrow.Author.Tests.{eqb-true, ltb-true, lt-ltb, le-ltb}
use Rattle.layout.specs.Records.{◌!◌}
use Rattle.layout.specs.Tests.{all}
use Rattle.layout.proofs.Bools.{and_both}
use Rattle.program.specs.Places.{version_at, table_of}
use Rattle.program.specs.Program.{Version, Program}
use Rattle.program.proofs.Held.{find-numbers}
use Rattle.machine.specs.Begin.{program_of}
use Rattle.bounds.specs.Bounds.{reached_by, dependencies, steps_of, Row, is_listed, bound_in, is_free, first_of, by_number, row_of, listed_from, bounded, Bound, MOST, reads, Entry, entry_of}
use Rattle.bounds.specs.Sums.{LIMIT, cap}
use Rattle.bounds.specs.Counts.{kept, below, lines_in, steps_ahead, reached_ahead, Counted, Begin, first_place, open_at, free_at, Ready, Begins, Worth, Stands}
use Rattle.bounds.specs.Rows.{code_of, numbers_after, steps_after}
use Rattle.bounds.proofs.Caps.{Capped, whole, full, capped}
use Rattle.bounds.proofs.Chains.{open_in, count_most, listed-stays, enough-rounds}
use Rattle.bounds.proofs.Slots.{by_slots, slot-there}
use Rattle.bounds.proofs.Known.{found_at, first-free, free-is, kept-steps, set_keeps, stands-more, counted-more}

-- ---- arrays with one more entry

numbers_more : (out : List ℕ) (i : ℕ) (es : List Entry) (e : Entry) → numbers_after out i (es ++ (e ∷ [])) ≡ set (set (numbers_after out i es) (2 * (i + length es)) e.function) (2 * (i + length es) + 1) e.version
unfolding numbers_after
numbers_more out i [] e = let z : i + 0 ≡ i = omega arith in rw z refl
numbers_more out i (x ∷ es) e = let z : i + suc (length es) ≡ i + 1 + length es = omega arith in rw z (numbers_more (set (set out (2 * i) x.function) (2 * i + 1) x.version) (i + 1) es e)

steps-more : (out : List ℕ) (i : ℕ) (es : List Entry) (e : Entry) → steps_after out i (es ++ (e ∷ [])) ≡ set (steps_after out i es) (i + length es) (code_of e.bound)
unfolding steps_after
steps-more out i [] e = let z : i + 0 ≡ i = omega arith in rw z refl
steps-more out i (x ∷ es) e = let z : i + suc (length es) ≡ i + 1 + length es = omega arith in rw z (steps-more (set out i (code_of x.bound)) (i + 1) es e)

map_more : (rows : List Row) (r : Row) → map entry_of (rows ++ (r ∷ [])) ≡ map entry_of rows ++ (entry_of r ∷ [])
map_more [] r = refl
map_more (x ∷ rows) r = ap (λ (l : List Entry). entry_of x ∷ l) (map_more rows r)

map-length : (rows : List Row) → length (map entry_of rows) ≡ length rows
map-length [] = refl
map-length (x ∷ rows) = ap suc (map-length rows)

-- a bound as it is written
code_reads : (n : ℕ) → code_of (reads n) ≡ cap n
unfolding code_of reads
code_reads n = go (capped n)
  where
    go : Capped n → code_of (cond (ltb MOST n) Bound.large (Bound.steps n)) ≡ cap n
    go (whole l e) = rw (le-ltb MOST n (omega arith)) (sym e)
    go (full l e) = rw (lt-ltb MOST n (omega arith)) (sym e)

-- ---- one round more, and none

none_more : (P : Program) (vs : List Version) (rows : List Row) → listed_from P vs 0 rows ≡ rows
unfolding listed_from
none_more P vs rows = refl

one_more : (P : Program) (vs : List Version) (n : ℕ) (rows : List Row) (v : Version) → first_of (is_free P rows) vs ≡ some v → listed_from P vs (suc n) rows ≡ listed_from P vs n (rows ++ (row_of P rows v ∷ []))
unfolding listed_from
one_more P vs n rows v e = rw (e, listed_from) refl

-- ---- where the counts begin

pub begins-all : (s places : List ℕ) (k : ℕ) → Begins s places k → 128 ≤ k → Begins s places 128
begins-all s places k b h = record { placed = b.placed; each = λ j l t. b.each j (omega arith) t }

counted-first : (s known : List ℕ) (v p n : ℕ) → Begin s v p → n ≡ 0 → Counted s known v p n
unfolding reached_ahead reached_by steps_ahead lines_in dependencies steps_of
counted-first s known v p n b z = rw z (record { room = omega arith; left = λ h i. record { needs = rw (b.code, b.blocks) refl; steps = rw (b.code, b.blocks, zero-add, zero-add) refl } })

ready-first : (s known places sums : List ℕ) → Begins s places 128 → length sums ≡ 128 → ((k : ℕ) → k < 128 → sums ! k ≡ 0) → Ready s known places sums
ready-first s known places sums b l z = record { placed = b.placed; summed = l; each = λ k h t. counted-first s known (table_of s ! k) (places ! k) (sums ! k) (b.each k h t) (z k h) }

-- ---- the rows so far

pub record Filled (s numbers₀ counts₀ known numbers counts places sums : List ℕ) (row : ℕ) : Type 0 where
  pub rows : List Row
  pub count : row ≡ length rows
  pub few : row ≤ 64
  pub rest : listed_from (program_of s) (by_number (program_of s)) (64 - row) rows ≡ bounded (program_of s)
  pub stands : Stands known rows
  pub ready : Ready s known places sums
  pub numbered : numbers ≡ numbers_after numbers₀ 0 (map entry_of rows)
  pub counted : counts ≡ steps_after counts₀ 0 (map entry_of rows)

-- all rows
abbrev pub Full : (s numbers₀ counts₀ known numbers counts : List ℕ) (row : ℕ) → Type 0
Full s numbers₀ counts₀ known numbers counts row = (row ≡ length (bounded (program_of s))) × Stands known (bounded (program_of s)) × (numbers ≡ numbers_after numbers₀ 0 (map entry_of (bounded (program_of s)))) × (counts ≡ steps_after counts₀ 0 (map entry_of (bounded (program_of s))))

pub filled-first : (s numbers counts known places sums : List ℕ) → Stands known [] → length (by_number (program_of s)) ≤ 64 → Begins s places 128 → length sums ≡ 128 → ((k : ℕ) → k < 128 → sums ! k ≡ 0) → Filled s numbers counts known numbers counts places sums 0
unfolding bounded numbers_after steps_after
filled-first s numbers counts known places sums st h b l z = record {
  rows = [];
  count = refl;
  few = omega arith;
  rest = rw y (enough-rounds (program_of s) (by_number (program_of s)) (length (by_number (program_of s))) (64 - length (by_number (program_of s))) [] (count_most (open_in []) (by_number (program_of s))));
  stands = st;
  ready = ready-first s known places sums b l z;
  numbered = refl;
  counted = refl;
}
  where
    y : 64 - 0 ≡ length (by_number (program_of s)) + (64 - length (by_number (program_of s)))
    y = omega arith

module _ {s numbers₀ counts₀ known numbers counts places sums : List ℕ} {row : ℕ} (f : Filled s numbers₀ counts₀ known numbers counts places sums row) where
  -- the rows are all that there are
  all-rows : f.rows ≡ bounded (program_of s) → Full s numbers₀ counts₀ known numbers counts row
  all-rows e = (f.count ∙ ap (λ (l : List Row). length l) e, subst (Stands known) e f.stands, f.numbered ∙ ap (λ (l : List Row). numbers_after numbers₀ 0 (map entry_of l)) e, f.counted ∙ ap (λ (l : List Row). steps_after counts₀ 0 (map entry_of l)) e)

  pub full-end : 64 ≤ row → Full s numbers₀ counts₀ known numbers counts row
  full-end h = all-rows (sym (none_more (program_of s) (by_number (program_of s)) f.rows) ∙ (let z : 64 - row ≡ 0 = omega arith in rw z at f.rest))

  first-is : {o : Found} → o ≡ first_place (free_at s known) 128 0 → first_of (is_free (program_of s) f.rows) (by_number (program_of s)) ≡ found_at known f.rows f.stands s o
  first-is e = rw (by_slots (program_of s)) (first-free known f.rows f.stands s 128 0 (omega arith) ∙ ap (found_at known f.rows f.stands s) (sym e))

  pub full-none : {o : Found} → o ≡ first_place (free_at s known) 128 0 → o ≡ None → Full s numbers₀ counts₀ known numbers counts row
  unfolding found_at
  full-none e z = all-rows (sym (listed-stays (program_of s) (by_number (program_of s)) (64 - row) f.rows (first-is e ∙ ap (found_at known f.rows f.stands s) z)) ∙ f.rest)

  -- one more row
  module _ (h : row < 64) {o : Found} (e : o ≡ first_place (free_at s known) 128 0) (k : ℕ) (at-k : o ≡ Some k) {places' sums' : List ℕ} (ready : Ready s known places' sums') (worth : Worth s known sums' o) where
    worth-k : (k < 128) × (free_at s known k ≡ true) × (sums' ! k ≡ cap (steps_of (program_of s) (below (kept known)) (version_at s (table_of s ! k))))
    unfolding Worth
    worth-k = subst (Worth s known sums') at-k worth

    pub row-place : k < 128
    row-place = worth-k.0

    pub row-steps : sums' ! k ≤ LIMIT
    row-steps = go (capped (steps_of (program_of s) (below (kept known)) (version_at s (table_of s ! k))))
      where
        go : Capped (steps_of (program_of s) (below (kept known)) (version_at s (table_of s ! k))) → sums' ! k ≤ LIMIT
        go (whole l q) = omega (arith, l, q, worth-k.2)
        go (full l q) = omega (arith, q, worth-k.2)

    inside : (table_of s ! k < length s) × (known ! k ≡ 0)
    unfolding free_at open_at
    inside = let a = and_both _ _ (and_both _ _ worth-k.1).0 in (ltb-true (table_of s ! k) (length s) a.0, eqb-true (known ! k) 0 a.1)

    abbrev W : Version
    W = version_at s (table_of s ! k)

    listed : all (is_listed f.rows) (dependencies (program_of s) W) ≡ true
    unfolding is_free
    listed = (and_both _ _ (sym (free-is known f.rows f.stands s k worth-k.0 inside.0) ∙ worth-k.1)).1

    abbrev new : Row
    new = row_of (program_of s) f.rows W

    number : sums' ! k ≡ cap (steps_of (program_of s) (bound_in f.rows) W)
    number = worth-k.2 ∙ kept-steps known f.rows f.stands (program_of s) W listed

    named : (W.function ≡ k / 4) × (W.version ≡ k % 4)
    named = find-numbers (program_of s) (k / 4) (k % 4) W (slot-there s k worth-k.0 inside.0)

    pub filled_more : {n : ℕ} → n ≡ sums' ! k → {ns ss : List ℕ} → (ns ≡ set (set numbers (2 * row) (k / 4)) (2 * row + 1) (k % 4)) × (ss ≡ set counts row n) → Filled s numbers₀ counts₀ (set known k (n + 1)) ns ss places' sums' (row + 1)
    unfolding row_of found_at
    filled_more {n} en w = record {
      rows = f.rows ++ (new ∷ []);
      count = omega (arith, length-append f.rows (new ∷ []), f.count);
      few = omega arith;
      rest = one_less ∙ f.rest;
      stands = stands-more known f.rows f.stands k worth-k.0 inside.1 new named.0 named.1 (n + 1) (add-one n ∙ ap suc (en ∙ number));
      ready = record { placed = ready.placed; summed = ready.summed; each = λ j l t. counted-more s known (set known k (n + 1)) (table_of s ! j) (places' ! j) (sums' ! j) (set_keeps known f.rows f.stands k worth-k.0 inside.1 (n + 1)) (ready.each j l t) };
      numbered = w.0 ∙ rw (f.numbered, f.count) (sym (ap (numbers_after numbers₀ 0) (map_more f.rows new) ∙ numbers_more numbers₀ 0 (map entry_of f.rows) (entry_of new) ∙ rw (map-length f.rows, zero-add, named.0, named.1) refl));
      counted = w.1 ∙ rw (f.counted, f.count) (sym (ap (steps_after counts₀ 0) (map_more f.rows new) ∙ steps-more counts₀ 0 (map entry_of f.rows) (entry_of new) ∙ rw (map-length f.rows, zero-add, code_reads (steps_of (program_of s) (bound_in f.rows) W), ← number, ← en) refl));
    }
      where
        one_less : listed_from (program_of s) (by_number (program_of s)) (64 - (row + 1)) (f.rows ++ (new ∷ [])) ≡ listed_from (program_of s) (by_number (program_of s)) (64 - row) f.rows
        one_less = let z : 64 - row ≡ suc (64 - (row + 1)) = omega arith in rw z (sym (one_more (program_of s) (by_number (program_of s)) (64 - (row + 1)) f.rows W (first-is e ∙ ap (found_at known f.rows f.stands s) at-k)))
