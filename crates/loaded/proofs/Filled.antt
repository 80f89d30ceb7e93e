-- The table of an image that questions 3, 4 and 5 passed: record by record, what stands ahead is what the table says.
use Rattle.std.specs.Prelude.{None, Ok}
use mathlib.Core.Path.{◌≡◌, refl, sym, ap, ◌∙◌, subst}
use Rattle.layout.specs.Found.{Found}
use mathlib.Core.Logic.{◌⊎◌, inl, inr}
use mathlib.Core.List.{List, [], ◌∷◌}
use mathlib.Core.Option.{Option, none, some}
use mathlib.Core.Bool.{Bool, true, false, cond, ◌||◌}
use Prim.Native.Nat.{ℕ, zero, suc, ◌+◌, ◌-◌, ◌*◌, ◌/◌, ◌≤◌, ◌<◌}
use native.Mathlib.Omega.{arith}
use lib.ListN.{length}
use lib.Dec.{ltb, leb, eqb}
use borrow.Author.Tests.{eq-eqb, ne_eqb, eqb-true, eqb-false, ltb-true, ltb-false, leb-true}
use Rattle.layout.specs.Bounds.{INSTRUCTIONS, MARKS}
use Rattle.layout.specs.Kinds as kind
use Rattle.layout.specs.Tests.{◌and◌}
use Rattle.layout.specs.Records.{Rec, ◌!◌, choose, size_at, kind_at, body_at, rec_at, rest, records}
use Rattle.layout.specs.Scan.{scan}
use Rattle.layout.specs.Questions.{version_in_bounds, in_bounds, in_order, due_after, after_block, after_level, after_line, after_version, none_due, placed, follows, following, last_version, fitting}
use Rattle.layout.specs.Questions.{same, nothing, question3, question4, question5, start}
use Rattle.layout.specs.declared.Due.{Due}
use Rattle.layout.specs.declared.Form.{Form}
use Rattle.layout.proofs.Bools.{and_both}
use Rattle.layout.proofs.Walk.{rest-cons, rest_end, size_room}
use Rattle.program.specs.Program.{Version, View, block_of, version_of, line_of, nowhere, put, put_by, find_version}
use Rattle.program.specs.Places.{view_at, past}
use Rattle.program.proofs.Laid.{passed}
use Rattle.program.proofs.Views.{view-at, view-end}
use Rattle.checker.specs.Verdicts.{verdict_of}
use Rattle.checker.proofs.Accepted as Accept
use Rattle.machine.specs.Begin.{program_of}
use Rattle.loaded.specs.Loaded.{BLOCK-ENTRIES, RECORDS, entry_in, line_in, lines_in, block_in, blocks_in, record_at, version_in, numbered_in, program_in}
use Rattle.loaded.specs.Filling.{beginning, entered, filled, moved_on, pointed, recorded}
use Rattle.loaded.specs.Loading.{bytes_for}
use Rattle.loaded.specs.declared.Cursor.{Cursor}
use Rattle.loaded.proofs.Entries.{filled_at, filled-end}
use Rattle.loaded.proofs.Finding.{outside, within}
use Rattle.loaded.proofs.Stores.{Written, entry-is, entry-none, length-pointed, length-recorded, pointed-high, pointed-low, pointed-other, recorded-at, recorded-other}
use Rattle.loaded.proofs.Standing.{Fitting, stands, line-stands, six, block_size, level-size, version-stands, block-stands}

-- ---- numbers of versions

-- the bounds of question 4 that a number and its blocks need
bounded : (b : List ℕ) → version_in_bounds b ≡ true → (b ! 0 < 32) × (b ! 1 < 4) × (b ! 5 ≤ 8)
unfolding version_in_bounds
bounded b h =
    let a0 = and_both _ _ h in
    let a1 = and_both _ _ a0.1 in
    let a2 = and_both _ _ a1.1 in
    let a3 = and_both _ _ a2.1 in
    let a4 = and_both _ _ a3.1 in
    let a5 = and_both _ _ a4.1 in
    let a6 = and_both _ _ a5.1 in
    (ltb-true _ _ a0.0, ltb-true _ _ a1.0, leb-true _ _ a6.1)

-- and that of a mark
marked : (b : List ℕ) → (ltb (b ! 0) MARKS and leb (b ! 2) INSTRUCTIONS) ≡ true → b ! 0 < 2
marked b h = ltb-true _ _ (and_both _ _ h).0

-- numbers below `low` are behind: those up to the last VERSION's
unfoldable pub Passed : Option Rec → ℕ → Type 0
Passed none low = low ≡ 0
Passed (some r) low = (low ≡ 4 * r.body ! 0 + r.body ! 1 + 1) × (r.body ! 1 < 4)

-- question 5: the next VERSION has a greater number
rising : (last : Option Rec) (f w low : ℕ) → follows last f w ≡ true → Passed last low → low ≤ 4 * f + w
unfolding follows Passed
rising none f w low h e = omega arith
rising (some r) f w low h e = go (eqb f (r.body ! 0) and eqb w (r.body ! 1 + 1)) refl h
  where
    go : (a : Bool) → (eqb f (r.body ! 0) and eqb w (r.body ! 1 + 1)) ≡ a → (a || (eqb f (r.body ! 0 + 1) and eqb w 0)) ≡ true → low ≤ 4 * f + w
    go true q g = let x = and_both _ _ q in let y : f ≡ r.body ! 0 = eqb-true _ _ x.0 in let z : w ≡ r.body ! 1 + 1 = eqb-true _ _ x.1 in let l = e.0 in omega arith
    go false q g = let x = and_both _ _ g in let y : f ≡ r.body ! 0 + 1 = eqb-true _ _ x.0 in let l = e.0 in let v = e.1 in omega arith

-- two pairs of numbers that differ
differ : (a b f v : ℕ) → (a ≡ f → b ≡ v → ⊥) → (eqb a f and eqb b v) ≡ false
unfolding ◌and◌
differ a b f v h = go (eqb a f) (eqb b v) refl refl
  where
    go : (x y : Bool) → eqb a f ≡ x → eqb b v ≡ y → (x and y) ≡ false
    go true true q r = absurd (h (eqb-true _ _ q) (eqb-true _ _ r))
    go true false q r = refl
    go false y q r = refl

-- ---- one record more

-- the cursor stands where the table is free: for the blocks that are due, for a record each 6 bytes, and for the versions from `low` on
pub record Ready (s : List ℕ) (low : ℕ) (d : Due) (p : ℕ) (c : Cursor) (t : List ℕ) : Type 0 where
  pub begun : BLOCK-ENTRIES ≤ c.block
  pub few : c.block + d.blocks ≤ BLOCK-ENTRIES + 8 * low
  pub numbers : low ≤ 128
  pub room : record_at (c.next + (length s - p) / 6) ≤ length t
  pub free : (j : ℕ) → 2 * low ≤ j → j < 256 → t ! j ≡ 0

-- T, which the records from p on made of t, says what lies ahead of p, and is t in what was entered before
pub record Shown (s : List ℕ) (low : ℕ) (d : Due) (p : ℕ) (c : Cursor) (t T : List ℕ) (w : View) : Type 0 where
  pub kept_versions : (j : ℕ) → j < 2 * low → T ! j ≡ t ! j
  pub kept_blocks : (j : ℕ) → 2 * BLOCK-ENTRIES ≤ j → j < 2 * c.block → T ! j ≡ t ! j
  pub kept_records : (j : ℕ) → RECORDS ≤ j → j < record_at c.next → T ! j ≡ t ! j
  pub level : 0 < d.levels → d.instructions ≡ 0 → w.level ≡ s ! (p + 4)
  pub long : length T ≡ length t
  pub placed : record_at (c.next + d.instructions) ≤ length T
  pub code : d.levels ≡ 0 → w.code ≡ lines_in s T c.next d.instructions
  pub blocks : w.blocks ≡ blocks_in s T c.block d.blocks
  pub seen : (f v : ℕ) → low ≤ 4 * f + v → f < 32 → v < 4 → find_version w.versions f v ≡ numbered_in s T (4 * f + v)
  pub gone : (f v : ℕ) → v < 4 → 4 * f + v < low → find_version w.versions f v ≡ none
  pub far : (f v : ℕ) → (32 ≤ f) ⊎ (4 ≤ v) → find_version w.versions f v ≡ none

-- nothing is left, and nothing is due
none_left : (s : List ℕ) (low : ℕ) (d : Due) (p : ℕ) (c : Cursor) (t : List ℕ) → Ready s low d p c t → d.levels ≡ 0 → d.blocks ≡ 0 → d.instructions ≡ 0 → Shown s low d p c t t nowhere
unfolding lines_in blocks_in find_version numbered_in
none_left s low d p c t R l b i = record {
  kept_versions = λ j h. refl;
  kept_blocks = λ j h k. refl;
  kept_records = λ j h k. refl;
  level = λ x y. absurd (omega arith);
  long = refl;
  placed = omega (arith, R.room, i);
  code = λ x. rw i refl;
  blocks = rw b refl;
  seen = λ f v x y z. rw (entry-none t (4 * f + v) (R.free (2 * (4 * f + v)) (omega arith) (omega arith)) (R.free (2 * (4 * f + v) + 1) (omega arith) (omega arith))) refl;
  gone = λ f v x y. refl;
  far = λ f v x. refl;
}

module _ (s : List ℕ) (p : ℕ) (fits : Fitting s p) (low : ℕ) (d : Due) (c : Cursor) (t : List ℕ) (R : Ready s low d p c t) (ends : past s p ≤ length s) where
  -- a BLOCK
  module _ (e : kind_at s p ≡ kind.BLOCK) (mark : body_at s p ! 0 < 2) (due : (d.levels ≡ 0) × (0 < d.blocks) × (d.instructions ≡ 0)) where
    abbrev t₁ : List ℕ
    t₁ = pointed t c.block c.next

    abbrev t₂ : List ℕ
    t₂ = recorded s t₁ c.next (p + 2)

    abbrev d₂ : Due
    d₂ = after_block d (body_at s p)

    abbrev c₂ : Cursor
    c₂ = record { block = c.block + 1; next = c.next + 1 }

    block-ready : Ready s low d₂ (past s p) c₂ t₂
    block-ready =
        let z = block_size fits e in
        let a = R.begun in
        let b = R.few in
        let n = R.numbers in
        let r = R.room in
        let q = due.1 in
        let l : length t₂ ≡ length t = length-recorded s t₁ c.next (p + 2) ∙ length-pointed t c.block c.next in
        record {
          begun = omega arith;
          few = omega arith;
          numbers = n;
          room = omega arith;
          free = λ j x y. recorded-other s t₁ c.next (p + 2) j (λ g h. omega arith) ∙ pointed-other t c.block c.next j (λ g h. omega arith) ∙ R.free j x y;
        }

    block-shown : (T : List ℕ) (w : View) → Shown s low d₂ (past s p) c₂ t₂ T w → Shown s low d p c t T (put (rec_at s p) w)
    unfolding put_by lines_in blocks_in
    block-shown T w S = subst (Shown s low d p c t T) is (record {
      kept_versions = λ j h. S.kept_versions j h ∙ others j (λ g f. omega (arith, lower.0)) (λ g f. omega (arith, lower.0));
      kept_blocks = λ j h k. S.kept_blocks j h (omega arith) ∙ others j (λ g f. omega (arith, lower.0)) (λ g f. omega arith);
      kept_records = λ j h k. S.kept_records j h (omega arith) ∙ others j (λ g f. omega arith) (λ g f. omega (arith, lower.0));
      level = λ x y. absurd (omega (arith, due.0));
      long = S.long ∙ length-recorded s t₁ c.next (p + 2) ∙ length-pointed t c.block c.next;
      placed = omega (arith, due.2, S.placed);
      code = λ x. rw due.2 refl;
      blocks = (λ i. first i ∷ S.blocks i) ∙ ap (blocks_in s T c.block) more;
      seen = S.seen;
      gone = S.gone;
      far = S.far;
    })
      where
        is : ◌≡◌ {A = View} (record { level = 0; code = []; blocks = block_of (rec_at s p) w.code ∷ w.blocks; versions = w.versions }) (put (rec_at s p) w)
        is = simp e

        lower : (2 * c.block + 2 ≤ RECORDS) × (record_at c.next + 8 ≤ length t)
        lower =
            let z = block_size fits e in
            let a = R.begun in
            let b = R.few in
            let n = R.numbers in
            let r = R.room in
            let q = due.1 in
            (omega arith, omega arith)

        others : (j : ℕ) → (record_at c.next ≤ j → j < record_at c.next + 8 → ⊥) → (2 * c.block ≤ j → j < 2 * c.block + 2 → ⊥) → t₂ ! j ≡ t ! j
        others j x y = recorded-other s t₁ c.next (p + 2) j x ∙ pointed-other t c.block c.next j y

        written : Written s T c.next (p + 2)
        written j l = S.kept_records (record_at c.next + j) (omega arith) (omega arith) ∙ recorded-at s t₁ c.next (p + 2) j l (rw (length-pointed t c.block c.next) lower.1)

        -- the bytes of the block's entry
        kept : (j : ℕ) → 2 * c.block ≤ j → j < 2 * c.block + 2 → T ! j ≡ t₁ ! j
        kept j x y = S.kept_blocks j (omega (arith, R.begun)) (omega arith) ∙ recorded-other s t₁ c.next (p + 2) j (λ g h. omega (arith, lower.0))

        entry : entry_in T c.block ≡ c.next
        entry =
            let l : 2 * c.block + 2 ≤ length t = omega (arith, lower.0, lower.1) in
            entry-is T c.block c.next (kept (2 * c.block) (omega arith) (omega arith) ∙ pointed-low t c.block c.next l)
            (kept (2 * c.block + 1) (omega arith) (omega arith) ∙ pointed-high t c.block c.next l)

        first : block_of (rec_at s p) w.code ≡ block_in s T (entry_in T c.block)
        first = block-stands fits T c.next w.code e mark written (omega (arith, S.placed)) (S.code due.0) ∙ ap (block_in s T) (sym entry)

        more : suc (d.blocks - 1) ≡ d.blocks
        more = omega (arith, due.1)

  -- an instruction
  module _ (v : kind_at s p ≡ kind.VERSION → ⊥) (b : kind_at s p ≡ kind.BLOCK → ⊥) (l : kind_at s p ≡ kind.LEVEL → ⊥) (bound : in_bounds (kind_at s p) (body_at s p) ≡ true)
      (due : 0 < d.instructions) where
    abbrev t₃ : List ℕ
    t₃ = recorded s t c.next (p + 2)

    abbrev c₃ : Cursor
    c₃ = record { block = c.block; next = c.next + 1 }

    line-ready : Ready s low (after_line d) (past s p) c₃ t₃
    line-ready =
        let z = six fits v l in
        let a = R.begun in
        let f = R.few in
        let n = R.numbers in
        let r = R.room in
        let len : length t₃ ≡ length t = length-recorded s t c.next (p + 2) in
        record {
          begun = a;
          few = f;
          numbers = n;
          room = omega arith;
          free = λ j x y. recorded-other s t c.next (p + 2) j (λ g h. omega arith) ∙ R.free j x y;
        }

    line-shown : (T : List ℕ) (w : View) → Shown s low (after_line d) (past s p) c₃ t₃ T w → Shown s low d p c t T (put (rec_at s p) w)
    unfolding put_by lines_in
    line-shown T w S = subst (Shown s low d p c t T) is (record {
      kept_versions = λ j h. S.kept_versions j h ∙ others j (λ g f. omega (arith, lower.0));
      kept_blocks = λ j h k. S.kept_blocks j h k ∙ others j (λ g f. omega (arith, lower.0));
      kept_records = λ j h k. S.kept_records j h (omega arith) ∙ others j (λ g f. omega arith);
      level = λ x y. absurd (omega arith);
      long = S.long ∙ length-recorded s t c.next (p + 2);
      placed = omega (arith, S.placed, due);
      code = λ x. (λ i. first i ∷ S.code x i) ∙ ap (lines_in s T c.next) more;
      blocks = S.blocks;
      seen = S.seen;
      gone = S.gone;
      far = S.far;
    })
      where
        is : ◌≡◌ {A = View} (record { level = 0; code = line_of (rec_at s p) ∷ w.code; blocks = w.blocks; versions = w.versions }) (put (rec_at s p) w)
        is = simp (ne_eqb _ _ v, ne_eqb _ _ b, ne_eqb _ _ l)

        lower : (2 * c.block ≤ RECORDS) × (record_at c.next + 8 ≤ length t)
        lower =
            let z = six fits v l in
            let f = R.few in
            let n = R.numbers in
            let r = R.room in
            (omega arith, omega arith)

        others : (j : ℕ) → (record_at c.next ≤ j → j < record_at c.next + 8 → ⊥) → t₃ ! j ≡ t ! j
        others j x = recorded-other s t c.next (p + 2) j x

        written : Written s T c.next (p + 2)
        written j h = S.kept_records (record_at c.next + j) (omega arith) (omega arith) ∙ recorded-at s t c.next (p + 2) j h lower.1

        first : line_of (rec_at s p) ≡ line_in s T c.next
        first = line-stands fits v l b bound T c.next written

        more : suc (d.instructions - 1) ≡ d.instructions
        more = omega arith

  -- a LEVEL
  module _ (e : kind_at s p ≡ kind.LEVEL) (due : 0 < d.levels) where
    level-ready : Ready s low (after_level d) (past s p) c t
    level-ready = let r = R.room in record { begun = R.begun; few = R.few; numbers = R.numbers; room = omega arith; free = R.free }

    level-shown : (T : List ℕ) (w : View) → Shown s low (after_level d) (past s p) c t T w → Shown s low d p c t T (put (rec_at s p) w)
    unfolding put_by
    level-shown T w S = subst (Shown s low d p c t T) is (record {
      kept_versions = S.kept_versions;
      kept_blocks = S.kept_blocks;
      kept_records = S.kept_records;
      level = λ x y. let z = level-size fits e in stands fits 0 (p + 4) (omega arith) (omega arith);
      long = S.long;
      placed = S.placed;
      code = λ x. absurd (omega arith);
      blocks = S.blocks;
      seen = S.seen;
      gone = S.gone;
      far = S.far;
    })
      where
        is : ◌≡◌ {A = View} (record { level = body_at s p ! 0; code = line_of (rec_at s p) ∷ w.code; blocks = w.blocks; versions = w.versions }) (put (rec_at s p) w)
        is = simp e

  -- a VERSION
  module _ (e : kind_at s p ≡ kind.VERSION) (due : (d.levels ≡ 0) × (d.blocks ≡ 0) × (d.instructions ≡ 0))
      (bound : (body_at s p ! 0 < 32) × (body_at s p ! 1 < 4) × (body_at s p ! 5 ≤ 8)) where
    abbrev k : ℕ
    k = 4 * body_at s p ! 0 + body_at s p ! 1

    abbrev t₄ : List ℕ
    t₄ = pointed t k (p + 2)

    abbrev d₄ : Due
    d₄ = after_version d (body_at s p)

    abbrev c₄ : Cursor
    c₄ = record { block = BLOCK-ENTRIES + 8 * k; next = c.next }

    version-ready : low ≤ k → Ready s (k + 1) d₄ (past s p) c₄ t₄
    version-ready low-k =
        let n = R.numbers in
        let r = R.room in
        let f = bound.0 in
        let v = bound.1 in
        let bs = bound.2 in
        let len : length t₄ ≡ length t = length-pointed t k (p + 2) in
        record {
          begun = omega arith;
          few = omega arith;
          numbers = omega arith;
          room = omega arith;
          free = λ j x y. pointed-other t k (p + 2) j (λ g h. omega arith) ∙ R.free j (omega arith) y;
        }

    version-shown : low ≤ k → (T : List ℕ) (w : View) → Shown s (k + 1) d₄ (past s p) c₄ t₄ T w → Shown s low d p c t T (put (rec_at s p) w)
    unfolding put_by lines_in blocks_in find_version numbered_in ◌and◌
    version-shown low-k T w S = subst (Shown s low d p c t T) is (record {
      kept_versions = λ j h. S.kept_versions j (omega arith) ∙ others j (λ g f. omega arith);
      kept_blocks = λ j h m. S.kept_blocks j h (omega (arith, lower.0, due.1)) ∙ others j (λ g f. omega (arith, lower.1));
      kept_records = λ j h m. S.kept_records j h m ∙ others j (λ g f. omega (arith, lower.1));
      level = λ x y. absurd (omega (arith, due.0));
      long = S.long ∙ length-pointed t k (p + 2);
      placed = omega (arith, due.2, S.placed);
      code = λ x. rw due.2 refl;
      blocks = rw due.1 refl;
      seen = λ f v x y z. sees f v x y z (eqb (4 * f + v) k) refl;
      gone = λ f v x y. rw (other f v x (λ g. omega arith)) (S.gone f v x (omega arith));
      far = λ f v x. rw (beyond f v x) (S.far f v x);
    })
      where
        here : Version
        here = version_of (rec_at s p) w.level w.blocks

        is : ◌≡◌ {A = View} (record { level = 0; code = []; blocks = []; versions = here ∷ w.versions }) (put (rec_at s p) w)
        is = simp e

        lower : (c.block + d.blocks ≤ BLOCK-ENTRIES + 8 * low) × (k < BLOCK-ENTRIES) × (2 * k + 2 ≤ length t)
        lower =
            let b = R.few in
            let f = bound.0 in
            let v = bound.1 in
            let r = R.room in
            (b, omega arith, omega arith)

        others : (j : ℕ) → (2 * k ≤ j → j < 2 * k + 2 → ⊥) → t₄ ! j ≡ t ! j
        others j x = pointed-other t k (p + 2) j x

        place : entry_in T k ≡ p + 2
        place = entry-is T k (p + 2) (S.kept_versions (2 * k) (omega arith) ∙ pointed-low t k (p + 2) lower.2)
            (S.kept_versions (2 * k + 1) (omega arith) ∙ pointed-high t k (p + 2) lower.2)

        stood : here ≡ version_in s T k
        stood = version-stands fits T k w.level w.blocks e bound.1 refl place (S.level (omega arith) refl) S.blocks

        other : (f v : ℕ) → v < 4 → (4 * f + v ≡ k → ⊥) → (eqb (body_at s p ! 0) f and eqb (body_at s p ! 1) v) ≡ false
        other f v l n = differ (body_at s p ! 0) (body_at s p ! 1) f v (λ x y. n (omega arith))

        beyond : (f v : ℕ) → (32 ≤ f) ⊎ (4 ≤ v) → (eqb (body_at s p ! 0) f and eqb (body_at s p ! 1) v) ≡ false
        beyond f v (inl l) = differ (body_at s p ! 0) (body_at s p ! 1) f v (λ x y. omega (arith, bound.0))
        beyond f v (inr l) = differ (body_at s p ! 0) (body_at s p ! 1) f v (λ x y. omega (arith, bound.1))

        later : (f v : ℕ) → v < 4 → f < 32 → low ≤ 4 * f + v → (4 * f + v ≡ k → ⊥) → (a : Bool) → ltb k (4 * f + v) ≡ a → find_version w.versions f v ≡ cond
            (eqb (entry_in T (4 * f + v)) 0) none (some (version_in s T (4 * f + v)))
        later f v l g x n true q = let above = ltb-true k (4 * f + v) q in S.seen f v (omega arith) g l
        later f v l g x n false q =
            let up = ltb-false k (4 * f + v) q in
            let below : 4 * f + v < k = omega arith in
            let byte : (j : ℕ) → 2 * low ≤ j → j < 2 * k → T ! j ≡ 0 = λ j a b. S.kept_versions j (omega arith) ∙ others j (λ y h. omega arith) ∙ R.free j a (omega (arith, lower.1)) in
            let z : entry_in T (4 * f + v) ≡ 0 = entry-none T (4 * f + v) (byte (2 * (4 * f + v)) (omega arith) (omega arith)) (byte (2 * (4 * f + v) + 1) (omega arith) (omega arith)) in
            rw z (S.gone f v l (omega arith))

        sees : (f v : ℕ) → low ≤ 4 * f + v → f < 32 → v < 4 → (a : Bool) → eqb (4 * f + v) k ≡ a
            → cond (eqb (body_at s p ! 0) f and eqb (body_at s p ! 1) v) (some here) (find_version w.versions f v) ≡ cond (eqb (entry_in T (4 * f + v)) 0) none
            (some (version_in s T (4 * f + v)))
        sees f v x y z false q = rw (other f v z (eqb-false _ _ q)) (later f v z y x (eqb-false _ _ q) (ltb k (4 * f + v)) refl)
        sees f v x y z true q =
            let n : 4 * f + v ≡ k = eqb-true _ _ q in
            let m = bound.1 in
            let a : body_at s p ! 0 ≡ f = omega arith in
            let b : body_at s p ! 1 ≡ v = omega arith in
            let r : entry_in T (4 * f + v) ≡ p + 2 = ap (entry_in T) n ∙ place in
            rw (eq-eqb _ _ a, eq-eqb _ _ b, ne_eqb (entry_in T (4 * f + v)) 0 (λ g. omega arith)) (ap some (stood ∙ ap (version_in s T) (sym n)))

-- ---- all records

-- a question that passed at p: of the record there, and of those behind it
scan-on : {S : Type 0} (ok : S → Rec → Bool) (next : S → Rec → S) (end : S → Found) (s : List ℕ) (p : ℕ) (st : S) → p < length s → scan ok next end st (rest s p) ≡ None
    → (size_at s p ≡ 0 → ⊥) × (ok st (rec_at s p) ≡ true) × (scan ok next end (next st (rec_at s p)) (rest s (past s p)) ≡ None)
unfolding scan
scan-on ok next end s p st l h =
    let a = passed _ _ p (rw (rest-cons s p l) at h) in
    let b = and_both _ _ a.0 in
    let z = ltb-true 0 (size_at s p) b.0 in
    (λ y. omega arith, b.1, rw (ne_eqb (size_at s p) 0 (λ y. omega arith)) at a.1)

-- what is left to be shown from p on: the answers of questions 3, 4 and 5 to the records from there
record Asked (s : List ℕ) (p : ℕ) (d : Due) (last : Option Rec) : Type 0 where
  third : scan (fitting Form.Wide) same nothing tt (rest s p) ≡ None
  fourth : scan placed due_after (none_due (length s)) d (rest s p) ≡ None
  fifth : scan following last_version nothing last (rest s p) ≡ None

-- from the end of a record on, whatever is due there
abbrev Onward : List ℕ → ℕ → Type 0
Onward s p = (low : ℕ) (d : Due) (c : Cursor) (t : List ℕ) (last : Option Rec) → Ready s low d p c t → Passed last low → Asked s p d last → Shown s low d p c t (filled s (rest s p) c t)
    (view_at s p)

module _ (s : List ℕ) (p : ℕ) (inside : p < length s) (low : ℕ) (d : Due) (c : Cursor) (t : List ℕ) (last : Option Rec) (R : Ready s low d p c t) (P : Passed last low)
    (A : Asked s p d last) (on : Onward s (past s p)) where
  abbrev r : Rec
  r = rec_at s p

  q3 : (size_at s p ≡ 0 → ⊥) × (fitting Form.Wide tt r ≡ true) × (scan (fitting Form.Wide) same nothing tt (rest s (past s p)) ≡ None)
  q3 = scan-on (fitting Form.Wide) same nothing s p tt inside A.third

  q4 : (size_at s p ≡ 0 → ⊥) × (placed d r ≡ true) × (scan placed due_after (none_due (length s)) (due_after d r) (rest s (past s p)) ≡ None)
  q4 = scan-on placed due_after (none_due (length s)) s p d inside A.fourth

  q5 : (size_at s p ≡ 0 → ⊥) × (following last r ≡ true) × (scan following last_version nothing (last_version last r) (rest s (past s p)) ≡ None)
  q5 = scan-on following last_version nothing s p last inside A.fifth

  fits : Fitting s p
  fits = record { whole = q3.0; fit = eqb-true _ _ q3.1 }

  ends : past s p ≤ length s
  ends = size_room s p (omega arith)

  -- the record is entered, and what lies ahead of p is told by what lies ahead of its end
  turn : (c' : Cursor) (t' : List ℕ) → moved_on r c ≡ c' → entered s r c t ≡ t' → Shown s low d p c t (filled s (rest s (past s p)) c' t') (put r (view_at s (past s p))) → Shown s low d p c t
      (filled s (rest s p) c t) (view_at s p)
  turn c' t' x y S = rw (filled_at s p c t inside q3.0, view-at s p inside q3.0, x, y) S

  asked-on : (d' : Due) (last' : Option Rec) → due_after d r ≡ d' → last_version last r ≡ last' → Asked s (past s p) d' last'
  asked-on d' last' x y = record { third = q3.2; fourth = rw x at q4.2; fifth = rw y at q5.2 }

  order : in_order d (kind_at s p) ≡ true
  order = (and_both _ _ q4.1).1

  turn-version : kind_at s p ≡ kind.VERSION → Shown s low d p c t (filled s (rest s p) c t) (view_at s p)
  unfolding in_bounds in_order due_after choose moved_on entered Passed
  turn-version e =
      let o : (ltb d.versions 64 and eqb d.levels 0 and eqb d.blocks 0 and eqb d.instructions 0) ≡ true = simp e at order in
      let o1 = and_both _ _ (and_both _ _ o).1 in
      let o2 = and_both _ _ o1.1 in
      let due : (d.levels ≡ 0) × (d.blocks ≡ 0) × (d.instructions ≡ 0) = (eqb-true _ _ o1.0, eqb-true _ _ o2.0, eqb-true _ _ o2.1) in
      let bound = bounded (body_at s p) (simp e at (and_both _ _ q4.1).0) in
      let up = rising last (body_at s p ! 0) (body_at s p ! 1) low (simp e at q5.1) P in
      turn _ _ (simp e) (simp e) (version-shown s p fits low d c t R ends e due bound up _ _
      (on _ _ _ _ (some r) (version-ready s p fits low d c t R ends e due bound up) (refl, bound.1) (asked-on _ _ (simp e) (simp e))))

  turn-block : kind_at s p ≡ kind.BLOCK → Shown s low d p c t (filled s (rest s p) c t) (view_at s p)
  unfolding in_bounds in_order due_after choose moved_on entered
  turn-block e =
      let o : (eqb d.levels 0 and ltb 0 d.blocks and eqb d.instructions 0) ≡ true = simp e at order in
      let o1 = and_both _ _ o in
      let o2 = and_both _ _ o1.1 in
      let due : (d.levels ≡ 0) × (0 < d.blocks) × (d.instructions ≡ 0) = (eqb-true _ _ o1.0, ltb-true _ _ o2.0, eqb-true _ _ o2.1) in
      let mark = marked (body_at s p) (simp e at (and_both _ _ q4.1).0) in
      turn _ _ (simp e) (simp e) (block-shown s p fits low d c t R ends e mark due _ _
      (on _ _ _ _ last (block-ready s p fits low d c t R ends e mark due) P (asked-on _ _ (simp e) (simp e))))

  turn_level : kind_at s p ≡ kind.LEVEL → Shown s low d p c t (filled s (rest s p) c t) (view_at s p)
  unfolding in_order due_after choose moved_on entered
  turn_level e =
      let o : ltb 0 d.levels ≡ true = simp e at order in
      let due = ltb-true _ _ o in
      turn _ _ (simp e) (simp e) (level-shown s p fits low d c t R ends e due _ _ (on _ _ _ _ last (level-ready s p fits low d c t R ends e due) P (asked-on _ _ (simp e) (simp e))))

  turn-line : (kind_at s p ≡ kind.VERSION → ⊥) → (kind_at s p ≡ kind.BLOCK → ⊥) → (kind_at s p ≡ kind.LEVEL → ⊥) → Shown s low d p c t (filled s (rest s p) c t) (view_at s p)
  unfolding in_order due_after choose moved_on entered
  turn-line v b l =
      let ev = ne_eqb _ _ v in
      let eb = ne_eqb _ _ b in
      let el = ne_eqb _ _ l in
      let o : ltb 0 d.instructions ≡ true = simp (ev, eb, el) at order in
      let due = ltb-true _ _ o in
      let bound = (and_both _ _ q4.1).0 in
      turn _ _ (simp (ev, eb, el)) (simp (ev, eb, el)) (line-shown s p fits low d c t R ends v b l bound due _ _
      (on _ _ _ _ last (line-ready s p fits low d c t R ends v b l bound due) P (asked-on _ _ (simp (ev, eb, el)) (simp ev))))

  one_more : Shown s low d p c t (filled s (rest s p) c t) (view_at s p)
  one_more = go (eqb (kind_at s p) kind.VERSION) (eqb (kind_at s p) kind.BLOCK) (eqb (kind_at s p) kind.LEVEL) refl refl refl
    where
      go : (x y z : Bool) → eqb (kind_at s p) kind.VERSION ≡ x → eqb (kind_at s p) kind.BLOCK ≡ y → eqb (kind_at s p) kind.LEVEL ≡ z → Shown s low d p c t (filled s (rest s p) c t) (view_at s p)
      go true y z ex ey ez = turn-version (eqb-true _ _ ex)
      go false true z ex ey ez = turn-block (eqb-true _ _ ey)
      go false false true ex ey ez = turn_level (eqb-true _ _ ez)
      go false false false ex ey ez = turn-line (eqb-false _ _ ex) (eqb-false _ _ ey) (eqb-false _ _ ez)

-- at the end of the image
at-end : (s : List ℕ) (p : ℕ) → length s ≤ p → Onward s p
unfolding scan none_due
at-end s p l low d c t last R P A =
    let a = passed _ None (length s) (rw (rest_end s p l) at A.fourth) in
    let b = and_both _ _ a.0 in
    let e = and_both _ _ b.1 in
    rw (filled-end s p c t l, view-end s p l) (none_left s low d p c t R (eqb-true _ _ b.0) (eqb-true _ _ e.0) (eqb-true _ _ e.1))

-- from p on, of which n bytes at most are left
shown-from : (n : ℕ) (s : List ℕ) (p : ℕ) → length s - p ≤ n → Onward s p
shown-from zero s p h low d c t last R P A = at-end s p (omega arith) low d c t last R P A
shown-from (suc n) s p h low d c t last R P A = go (ltb p (length s)) refl (λ z. shown-from n s (past s p) z)
  where
    go : (b : Bool) → ltb p (length s) ≡ b → (length s - past s p ≤ n → Onward s (past s p)) → Shown s low d p c t (filled s (rest s p) c t) (view_at s p)
    go false q on = at-end s p (ltb-false p (length s) q) low d c t last R P A
    go true q on =
        let i = ltb-true p (length s) q in
        let z = (scan-on (fitting Form.Wide) same nothing s p tt i A.third).0 in
        one_more s p i low d c t last R P A (on (omega arith))

-- THE LAW of loading: behind an accepted image's records, the table stands for its program
pub filled-stands : (s t : List ℕ) (n : ℕ) → verdict_of s ≡ Ok n → ((j : ℕ) → j < 256 → t ! j ≡ 0) → bytes_for (length s) ≤ length t
    → (f w : ℕ) → find_version (program_in s (filled s (records s) beginning t)) f w ≡ find_version (program_of s) f w
unfolding question3 question4 question5 Passed
filled-stands s t n e z l f w = go (ltb f 32) (ltb w 4) refl refl
  where
    all : Accept.Passed Form.Wide s n
    all = Accept.passed s n e

    T : List ℕ
    T = filled s (records s) beginning t

    S : Shown s 0 start 0 beginning t T (view_at s 0)
    S = shown-from (length s) s 0 (omega arith) 0 start beginning t none
        (record { begun = omega arith; few = omega arith; numbers = omega arith; room = omega arith; free = λ j x y. z j y })
        refl
        (record { third = all.q3; fourth = all.q4; fifth = all.q5 })

    go : (a b : Bool) → ltb f 32 ≡ a → ltb w 4 ≡ b → find_version (program_in s T) f w ≡ find_version (program_of s) f w
    go true true x y = let x' = ltb-true f 32 x in let y' = ltb-true w 4 y in within s T f w x' y' ∙ sym (S.seen f w (omega arith) x' y')
    go true false x y = let y' = ltb-false w 4 y in outside s T f w (inr y') ∙ sym (S.far f w (inr y'))
    go false b x y = let x' = ltb-false f 32 x in outside s T f w (inl x') ∙ sym (S.far f w (inl x'))
