-- The rest of the list, and the report as a whole as it is written.
use Rattle.std.specs.Prelude.{Err, Ok}
use mathlib.Core.Path.{◌≡◌, refl, sym, ap, ◌∙◌}
use mathlib.Core.List.{List, [], ◌∷◌, ◌++◌, map}
use mathlib.Core.Bool.{Bool, true, false, cond, not}
use Prim.Native.Nat.{ℕ, zero, suc, ◌+◌, ◌*◌, ◌/◌, ◌%◌, ◌≤◌, ◌<◌}
use native.Mathlib.Omega.{arith}
use lib.ListN.{length, length-append, set}
use lib.Dec.{ltb}
use borrow.Author.Tests.{lt-ltb, le-ltb, ltb-true, ltb-false}
use Rattle.layout.specs.Records.{◌!◌}
use Rattle.layout.proofs.Bools.{and-on, and-off}
use Rattle.program.specs.Places.{version_at, table_of}
use Rattle.program.specs.Program.{Version}
use Rattle.program.proofs.Held.{find-numbers}
use Rattle.checker.specs.Verdicts.{verdict_of, Verdict}
use Rattle.checker.specs.declared.Refusal.{Refusal}
use Rattle.machine.specs.Begin.{program_of}
use Rattle.bounds.specs.Bounds.{Row, is_listed, by_number, bounded, unlisted, unbounded, Entry, entry_of, none_of, report}
use Rattle.bounds.specs.Counts.{open_at, Stands}
use Rattle.bounds.specs.Rows.{code_of, numbers_after, steps_after, rest_from, listing, bounds_of}
use Rattle.bounds.proofs.Known.{open_is}
use Rattle.bounds.proofs.Slots.{slots, by_slots, slot-there, slot-missing, slots-there, slots-missing}
use Rattle.bounds.proofs.Totals.{total, few-versions}

-- ---- those that are not listed

module _ (s known : List ℕ) (rows : List Row) (stands : Stands known rows) (k : ℕ) where
  open-listed : k < 128 → table_of s ! k < length s → open_at s known k ≡ not (is_listed rows (version_at s (table_of s ! k)))
  unfolding open_at
  open-listed h l = and-on _ (lt-ltb (table_of s ! k) (length s) l) ∙ open_is known rows stands s k (version_at s (table_of s ! k)) h (slot-there s k h l)

  open-missing : length s ≤ table_of s ! k → open_at s known k ≡ false
  unfolding open_at
  open-missing l = and-off _ (le-ltb (table_of s ! k) (length s) l)

-- the entry of the version at the place k
none-at : (s : List ℕ) (k : ℕ) → k < 128 → table_of s ! k < length s → ◌≡◌ {A = Entry} (record { function = k / 4; version = k % 4; bound = unbounded }) (none_of (version_at s (table_of s ! k)))
none-at s k h l =
    let named = find-numbers (program_of s) (k / 4) (k % 4) (version_at s (table_of s ! k)) (slot-there s k h l) in
    rw (named.0, named.1) refl

pub rest-is : (s known : List ℕ) (rows : List Row) → Stands known rows → (n k : ℕ) → k + n ≤ 128 → rest_from s known n k ≡ map none_of (unlisted rows (slots (program_of s) n k))
unfolding rest_from slots unlisted
rest-is s known rows stands zero k h = refl
rest-is s known rows stands (suc n) k h = go (ltb (table_of s ! k) (length s)) refl (rest-is s known rows stands n (k + 1) (omega arith))
  where
    more : List Version
    more = unlisted rows (slots (program_of s) n (k + 1))

    W : Version
    W = version_at s (table_of s ! k)

    pick : (b : Bool) → cond (not b) (none_of W ∷ map none_of more) (map none_of more) ≡ map none_of (cond b more (W ∷ more))
    pick true = refl
    pick false = refl

    go : (b : Bool) → ltb (table_of s ! k) (length s) ≡ b → rest_from s known n (k + 1) ≡ map none_of more
        → cond (open_at s known k) (record { function = k / 4; version = k % 4; bound = unbounded } ∷ rest_from s known n (k + 1)) (rest_from s known n (k + 1)) ≡ map none_of (unlisted rows (slots (program_of s) (suc n) k))
    go true e ih =
        let l = ltb-true (table_of s ! k) (length s) e in
        rw (slots-there (program_of s) n k W (slot-there s k (omega arith) l), open-listed s known rows stands k (omega arith) l, ih, none-at s k (omega arith) l) (pick (is_listed rows W))
    go false e ih =
        let l = ltb-false (table_of s ! k) (length s) e in
        rw (slots-missing (program_of s) n k (slot-missing s k (omega arith) l), open-missing s known rows stands k l) ih

-- ---- one list behind the other

numbers-both : (out : List ℕ) (i : ℕ) (a b : List Entry) → numbers_after out i (a ++ b) ≡ numbers_after (numbers_after out i a) (i + length a) b
unfolding numbers_after
numbers-both out i [] b = let z : i + 0 ≡ i = omega arith in rw z refl
numbers-both out i (e ∷ a) b = let z : i + suc (length a) ≡ i + 1 + length a = omega arith in rw z (numbers-both (set (set out (2 * i) e.function) (2 * i + 1) e.version) (i + 1) a b)

steps-both : (out : List ℕ) (i : ℕ) (a b : List Entry) → steps_after out i (a ++ b) ≡ steps_after (steps_after out i a) (i + length a) b
unfolding steps_after
steps-both out i [] b = let z : i + 0 ≡ i = omega arith in rw z refl
steps-both out i (e ∷ a) b = let z : i + suc (length a) ≡ i + 1 + length a = omega arith in rw z (steps-both (set out i (code_of e.bound)) (i + 1) a b)

map-length : {A B : Type 0} (f : A → B) (l : List A) → length (map f l) ≡ length l
map-length f [] = refl
map-length f (x ∷ l) = ap suc (map-length f l)

-- ---- the report

module _ (s known : List ℕ) (stands : Stands known (bounded (program_of s))) where
  rest-whole : rest_from s known 128 0 ≡ map none_of (unlisted (bounded (program_of s)) (by_number (program_of s)))
  rest-whole = rest-is s known (bounded (program_of s)) stands 128 0 (omega arith) ∙ ap (λ (l : List Version). map none_of (unlisted (bounded (program_of s)) l)) (sym (by_slots (program_of s)))

  -- there is room for the rest
  pub rest-fits : length (by_number (program_of s)) ≤ 64 → {row : ℕ} → row ≡ length (bounded (program_of s)) → row + length (rest_from s known 128 0) ≤ 64
  rest-fits h e = rw rest-whole (omega (arith, e, h, map-length none_of (unlisted (bounded (program_of s)) (by_number (program_of s))), total (program_of s)))

  -- both parts are the report
  pub report-whole : (numbers counts : List ℕ) {row last : ℕ} {numbers₁ counts₁ numbers₂ counts₂ : List ℕ} → row ≡ length (bounded (program_of s))
      → numbers₁ ≡ numbers_after numbers 0 (map entry_of (bounded (program_of s))) → counts₁ ≡ steps_after counts 0 (map entry_of (bounded (program_of s)))
      → (last ≡ row + length (rest_from s known 128 0)) × (numbers₂ ≡ numbers_after numbers₁ row (rest_from s known 128 0)) × (counts₂ ≡ steps_after counts₁ row (rest_from s known 128 0))
      → (last ≡ length (report (program_of s))) × (numbers₂ ≡ numbers_after numbers 0 (report (program_of s))) × (counts₂ ≡ steps_after counts 0 (report (program_of s)))
  unfolding report
  report-whole numbers counts {row} er en ec w =
      let rest = unlisted (bounded (program_of s)) (by_number (program_of s)) in
      let z : row ≡ 0 + length (map entry_of (bounded (program_of s))) = omega (arith, er, map-length entry_of (bounded (program_of s))) in (
        omega (arith, w.0, z, ap (λ (l : List Entry). length l) rest-whole, length-append (map entry_of (bounded (program_of s))) (map none_of rest)),
        w.1 ∙ rw (rest-whole, en, z) (sym (numbers-both numbers 0 (map entry_of (bounded (program_of s))) (map none_of rest))),
        w.2 ∙ rw (rest-whole, ec, z) (sym (steps-both counts 0 (map entry_of (bounded (program_of s))) (map none_of rest))),
      )

-- ---- behind the verdict

module _ (s : List ℕ) {a : Verdict} (judged : a ≡ verdict_of s) where
  pub few-rows : (k : ℕ) → a ≡ Ok k → length (by_number (program_of s)) ≤ 64
  few-rows k e = few-versions s k (sym judged ∙ e)

  pub bounds-listed : (k n : ℕ) → a ≡ Ok k → n ≡ length (report (program_of s)) → Ok n ≡ bounds_of s
  unfolding bounds_of listing
  bounds-listed k n e h = rw (← judged, e, h) refl

  pub bounds-refused : (why : Refusal) → a ≡ Err why → Err why ≡ bounds_of s
  unfolding bounds_of listing
  bounds-refused why e = rw (← judged, e) refl
