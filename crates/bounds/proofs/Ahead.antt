-- The greatest number of those that are reached, and the count of a version's steps along its records.
use Rattle.std.specs.Prelude.{None, Some}
use mathlib.Core.Path.{◌≡◌, refl, sym, ap, ◌∙◌}
use Rattle.layout.specs.Found.{Found}
use mathlib.Core.Logic.{◌⊎◌, inl, inr}
use mathlib.Core.List.{List, [], ◌∷◌, ◌++◌, append_assoc}
use mathlib.Core.Option.{none, some}
use mathlib.Core.Bool.{Bool, true, false, cond, not, true≢false, false≢true}
use Prim.Native.Nat.{ℕ, suc, ◌+◌, ◌-◌, ◌*◌, ◌≤◌, ◌<◌}
use native.Mathlib.Decide.{dec_lt}
use native.Mathlib.Numerals.{add-one}
use native.Mathlib.Omega.{arith}
use lib.Dec.{eqb, ltb}
use borrow.Author.Tests.{eq-eqb, ne_eqb, eqb-false, lt-ltb, le-ltb}
use Rattle.layout.specs.Kinds as kind
use Rattle.layout.specs.Records.{◌!◌, size_at, kind_at, body_at, rec_at, choose}
use Rattle.layout.specs.Tests.{◌and◌, all}
use Rattle.layout.proofs.Bools.{and-on, and-off, and_both}
use Rattle.layout.proofs.Rows.{Rows, choose-each}
use Rattle.program.specs.Places.{view_at, version_at, block_at, instr_at, version_place}
use Rattle.program.proofs.Lookups.{version-found, version-missing}
use Rattle.program.specs.Program.{Instr, Line, Version, Program, View, nowhere, arguments, instr_by, level_of, line_of, find_version}
use Rattle.program.proofs.Held.{find-numbers}
use Rattle.program.proofs.Views.{Whole, at-version, at_block, at-line}
use Rattle.machine.specs.Begin.{program_of}
use Rattle.bounds.specs.Bounds.{allows, passing, fitting, reaches, reached_by, reached_in, greater, largest, steps_at, steps_to, steps_in}
use Rattle.bounds.specs.Sums.{LIMIT, cap}
use Rattle.bounds.specs.Counts.{kept, kept_at, has, below, most, Keeps, lines_in, steps_ahead, reached_ahead, Left, Counted, Over}
use Rattle.bounds.proofs.Caps.{cap-sum, cap-twice}

-- ---- the greatest

greater-cases : (a b : ℕ) → ((a < b) × (greater a b ≡ b)) ⊎ ((b ≤ a) × (greater a b ≡ a))
unfolding greater
greater-cases a b = go (dec_lt a b)
  where
    go : Dec (a < b) → ((a < b) × (cond (ltb a b) b a ≡ b)) ⊎ ((b ≤ a) × (cond (ltb a b) b a ≡ a))
    go (yes h) = inl (h, rw (lt-ltb a b h) refl)
    go (no h) = inr (omega arith, rw (le-ltb a b (omega arith)) refl)

greater-zero : (n : ℕ) → greater 0 n ≡ n
greater-zero n = go (greater-cases 0 n)
  where
    go : ((0 < n) × (greater 0 n ≡ n)) ⊎ ((n ≤ 0) × (greater 0 n ≡ 0)) → greater 0 n ≡ n
    go (inl h) = h.1
    go (inr h) = omega (arith, h.0, h.1)

-- one more on both sides, and three of them
greater-more : (a g n : ℕ) → (g ≡ 0 → ⊥) → greater (greater (suc a) g - 1) n ≡ greater a (greater (g - 1) n)
greater-more a g n z = go (greater-cases (suc a) g) (greater-cases (g - 1) n) (greater-cases (greater (suc a) g - 1) n) (greater-cases a (greater (g - 1) n))
  where
    go : ((suc a < g) × (greater (suc a) g ≡ g)) ⊎ ((g ≤ suc a) × (greater (suc a) g ≡ suc a))
        → ((g - 1 < n) × (greater (g - 1) n ≡ n)) ⊎ ((n ≤ g - 1) × (greater (g - 1) n ≡ g - 1))
        → ((greater (suc a) g - 1 < n) × (greater (greater (suc a) g - 1) n ≡ n)) ⊎ ((n ≤ greater (suc a) g - 1) × (greater (greater (suc a) g - 1) n ≡ greater (suc a) g - 1))
        → ((a < greater (g - 1) n) × (greater a (greater (g - 1) n) ≡ greater (g - 1) n)) ⊎ ((greater (g - 1) n ≤ a) × (greater a (greater (g - 1) n) ≡ a))
        → greater (greater (suc a) g - 1) n ≡ greater a (greater (g - 1) n)
    go (inl p) (inl q) (inl r) (inl t) = omega (arith, p, q, r, t)
    go (inl p) (inl q) (inl r) (inr t) = omega (arith, p, q, r, t)
    go (inl p) (inl q) (inr r) (inl t) = omega (arith, p, q, r, t)
    go (inl p) (inl q) (inr r) (inr t) = omega (arith, p, q, r, t)
    go (inl p) (inr q) (inl r) (inl t) = omega (arith, p, q, r, t)
    go (inl p) (inr q) (inl r) (inr t) = omega (arith, p, q, r, t)
    go (inl p) (inr q) (inr r) (inl t) = omega (arith, p, q, r, t)
    go (inl p) (inr q) (inr r) (inr t) = omega (arith, p, q, r, t)
    go (inr p) (inl q) (inl r) (inl t) = omega (arith, p, q, r, t)
    go (inr p) (inl q) (inl r) (inr t) = omega (arith, p, q, r, t)
    go (inr p) (inl q) (inr r) (inl t) = omega (arith, p, q, r, t)
    go (inr p) (inl q) (inr r) (inr t) = omega (arith, p, q, r, t)
    go (inr p) (inr q) (inl r) (inl t) = omega (arith, p, q, r, t)
    go (inr p) (inr q) (inl r) (inr t) = omega (arith, p, q, r, t)
    go (inr p) (inr q) (inr r) (inl t) = omega (arith, p, q, r, t)
    go (inr p) (inr q) (inr r) (inr t) = omega (arith, p, q, r, t)

greater-some : (n g : ℕ) → (n ≡ 0 → ⊥) → greater n g ≡ 0 → ⊥
greater-some n g z e = go (greater-cases n g)
  where
    go : ((n < g) × (greater n g ≡ g)) ⊎ ((g ≤ n) × (greater n g ≡ n)) → ⊥
    go (inl h) = omega (arith, h, e)
    go (inr h) = z (sym h.1 ∙ e)

module _ (g : Version → ℕ) where
  -- what is reached is all listed, or not
  pub most-all : (n : ℕ) (vs : List Version) → all (has g) vs ≡ true → most g (suc n) vs ≡ suc (greater n (largest (below g) vs))
  unfolding most largest all
  most-all n [] h = ap suc (sym (none_more n))
    where
      none_more : (m : ℕ) → greater m 0 ≡ m
      none_more m = go (greater-cases m 0)
        where
          go : ((m < 0) × (greater m 0 ≡ 0)) ⊎ ((0 ≤ m) × (greater m 0 ≡ m)) → greater m 0 ≡ m
          go (inl q) = absurd (omega (arith, q.0))
          go (inr q) = q.1
  most-all n (v ∷ vs) h = go (eqb (g v) 0) refl (most-all (greater (suc n) (g v) - 1) vs)
    where
      go : (b : Bool) → eqb (g v) 0 ≡ b → (all (has g) vs ≡ true → most g (suc (greater (suc n) (g v) - 1)) vs ≡ suc (greater (greater (suc n) (g v) - 1) (largest (below g) vs)))
          → cond b 0 (most g (greater (suc n) (g v)) vs) ≡ suc (greater n (greater (g v - 1) (largest (below g) vs)))
      go true e ih = absurd (false≢true (sym (ap not e) ∙ (and_both _ _ h).0))
      go false e ih =
          let z : suc (greater (suc n) (g v) - 1) ≡ greater (suc n) (g v) = omega (arith, greater-some (suc n) (g v) (λ q. absurd (omega arith))) in
          (rw z at (ih (and_both _ _ h).1)) ∙ ap suc (greater-more n (g v) (largest (below g) vs) (eqb-false _ _ e))

  pub most-none : (n : ℕ) (vs : List Version) → all (has g) vs ≡ false → most g n vs ≡ 0
  unfolding most all ◌and◌
  most-none n [] h = absurd (true≢false h)
  most-none n (v ∷ vs) h = go (eqb (g v) 0) h (most-none (greater n (g v)) vs)
    where
      go : (b : Bool) → (not b and all (has g) vs) ≡ false → (all (has g) vs ≡ false → most g (greater n (g v)) vs ≡ 0) → cond b 0 (most g (greater n (g v)) vs) ≡ 0
      go true q ih = refl
      go false q ih = ih q

  -- as the code tells it
  pub listed-all : (vs : List Version) → (most g 1 vs ≡ 0 → ⊥) → (all (has g) vs ≡ true) × (most g 1 vs ≡ suc (largest (below g) vs))
  listed-all vs z = go (all (has g) vs) refl
    where
      go : (b : Bool) → all (has g) vs ≡ b → (all (has g) vs ≡ true) × (most g 1 vs ≡ suc (largest (below g) vs))
      go true e = (e, most-all 0 vs e ∙ ap suc (greater-zero (largest (below g) vs)))
      go false e = absurd (z (most-none 1 vs e))

  pub listed-not : (vs : List Version) → most g 1 vs ≡ 0 → all (has g) vs ≡ false
  listed-not vs z = go (all (has g) vs) refl
    where
      go : (b : Bool) → all (has g) vs ≡ b → all (has g) vs ≡ false
      go true e = absurd (omega (arith, z, most-all 0 vs e))
      go false e = e

-- ---- numbers that keep those there are

all_append : (p : Version → Bool) (l m : List Version) → all p (l ++ m) ≡ (all p l and all p m)
unfolding all ◌and◌
all_append p [] m = refl
all_append p (x ∷ l) m = go (p x) (all_append p l m)
  where
    go : (b : Bool) → all p (l ++ m) ≡ (all p l and all p m) → (b and all p (l ++ m)) ≡ ((b and all p l) and all p m)
    go true ih = ih
    go false ih = refl

module _ (g h : Version → ℕ) (keeps : Keeps g h) where
  keeps-one : (v : Version) → has g v ≡ true → h v ≡ g v
  keeps-one v e = keeps v (λ (q : g v ≡ 0). true≢false (sym e ∙ ap not (eq-eqb (g v) 0 q)))

  pub keeps-all : (vs : List Version) → all (has g) vs ≡ true → (all (has h) vs ≡ true) × (largest (below h) vs ≡ largest (below g) vs)
  unfolding all largest
  keeps-all [] e = (refl, refl)
  keeps-all (v ∷ vs) e =
      let a = and_both _ _ e in
      let q : h v ≡ g v = keeps-one v a.0 in
      let ih = keeps-all vs a.1 in
      (rw q (and-on _ a.0 ∙ ih.0), rw (q, ih.1) refl)

-- ---- the count goes on

lines-to : (price : Instr → ℕ) (ls : List Line) → steps_to price ls ≡ suc (lines_in price ls)
unfolding steps_to lines_in
lines-to price [] = refl
lines-to price (l ∷ ls) = omega (arith, lines-to price ls)

-- a number that is capped, and more
cap-more : (a b x y : ℕ) → x ≡ cap (a + b) → cap (a + (b + y)) ≡ cap (x + y)
cap-more a b x y e =
    let z : a + (b + y) ≡ a + b + y = omega arith in
    rw (z, e) (sym (cap-first (a + b) y))
  where
    cap-first : (m n : ℕ) → cap (cap m + n) ≡ cap (m + n)
    cap-first m n = sym (cap-sum (cap m) n) ∙ ap (λ (k : ℕ). cap (k + cap n)) (cap-twice m) ∙ cap-sum m n

-- what lies ahead of an instruction at p, whose record has the length q
abbrev lined : List ℕ → ℕ → ℕ → View
lined s p q = record { level = level_of (rec_at s p); code = line_of (rec_at s p) ∷ (view_at s (p + q)).code; blocks = (view_at s (p + q)).blocks; versions = (view_at s (p + q)).versions }

module _ (s : List ℕ) (v p q : ℕ) where
  ahead-line : reached_ahead (program_of s) (version_at s v) (lined s p q) ≡ reaches (program_of s) (version_at s v) (instr_at s p) ++ reached_ahead (program_of s) (version_at s v) (view_at s (p + q))
  unfolding reached_ahead reached_by instr_at
  ahead-line = append_assoc (reaches (program_of s) (version_at s v) (instr_at s p)) (reached_by (program_of s) (version_at s v) (view_at s (p + q)).code) (reached_in (program_of s) (version_at s v) (view_at s (p + q)).blocks)

module _ (s known : List ℕ) (v n : ℕ) {p q k : ℕ} (m : Whole s p q k) where
  -- a BLOCK: its end is one step
  pub counted-block : k ≡ kind.BLOCK → {x : ℕ} → (x ≡ cap (n + 1)) × (x ≤ LIMIT) → Counted s known v p n → Counted s known v (p + q) x
  unfolding reached_ahead reached_by reached_in steps_ahead lines_in steps_in block_at
  counted-block e {x} r c = record { room = r.1; left = λ h i. go h (rw (at_block m e) at (c.left h i)) }
    where
      go : (h : Version → ℕ) → Left (program_of s) (version_at s v) h (record { level = 0; code = []; blocks = block_at s p ∷ (view_at s (p + q)).blocks; versions = (view_at s (p + q)).versions }) n → Left (program_of s) (version_at s v) h (view_at s (p + q)) x
      go h l = record {
        needs = l.needs ∙ ap (all (has h)) (rw m.size refl);
        steps = l.steps ∙ rw (lines-to (steps_at (program_of s) (below h) (version_at s v)) (view_at s (p + size_at s p)).code, ← m.size) (again (lines_in (steps_at (program_of s) (below h) (version_at s v)) (view_at s (p + q)).code) (steps_in (steps_at (program_of s) (below h) (version_at s v)) (view_at s (p + q)).blocks));
      }
        where
          again : (a b : ℕ) → cap (n + (0 + (suc a + b))) ≡ cap (x + (a + b))
          again a b = let z : n + (0 + (suc a + b)) ≡ n + (1 + (a + b)) = omega arith in rw z (cap-more n 1 x (a + b) r.0)

  module _ (nv : k ≡ kind.VERSION → ⊥) (nb : k ≡ kind.BLOCK → ⊥) {y : ℕ} (told : y ≡ most (kept known) 1 (reaches (program_of s) (version_at s v) (instr_at s p))) where
    -- an instruction of which all that it may enter is listed
    pub counted-line : (y ≡ 0 → ⊥) → {x : ℕ} → (x ≡ cap (n + y)) × (x ≤ LIMIT) → Counted s known v p n → Counted s known v (p + q) x
    unfolding steps_ahead lines_in steps_at instr_at
    counted-line z {x} r c = record { room = r.1; left = λ h i. go h i (rw (at-line m nv nb) at (c.left h i)) }
      where
        listed : (all (has (kept known)) (reaches (program_of s) (version_at s v) (instr_at s p)) ≡ true) × (most (kept known) 1 (reaches (program_of s) (version_at s v) (instr_at s p)) ≡ suc (largest (below (kept known)) (reaches (program_of s) (version_at s v) (instr_at s p))))
        listed = listed-all (kept known) (reaches (program_of s) (version_at s v) (instr_at s p)) (λ e. z (told ∙ e))

        go : (h : Version → ℕ) → Keeps (kept known) h → Left (program_of s) (version_at s v) h (lined s p q) n → Left (program_of s) (version_at s v) h (view_at s (p + q)) x
        go h i l =
            let a = keeps-all (kept known) h i (reaches (program_of s) (version_at s v) (instr_at s p)) listed.0 in
            record {
              needs = l.needs ∙ ap (all (has h)) (ahead-line s v p q) ∙ all_append (has h) (reaches (program_of s) (version_at s v) (instr_at s p)) (reached_ahead (program_of s) (version_at s v) (view_at s (p + q))) ∙ and-on _ a.0;
              steps = l.steps ∙ again (lines_in (steps_at (program_of s) (below h) (version_at s v)) (view_at s (p + q)).code) (steps_in (steps_at (program_of s) (below h) (version_at s v)) (view_at s (p + q)).blocks) (told ∙ listed.1 ∙ ap suc (sym a.1));
            }
          where
            again : (a b : ℕ) → y ≡ suc (largest (below h) (reaches (program_of s) (version_at s v) (instr_at s p))) → cap (n + (suc (largest (below h) (reaches (program_of s) (version_at s v) (instr_at s p))) + a + b)) ≡ cap (x + (a + b))
            again a b e = rw (← e) (let z : n + (y + a + b) ≡ n + (y + (a + b)) = omega arith in rw z (cap-more n y x (a + b) r.0))

    -- or not
    pub stopped-line : y ≡ 0 → false ≡ all (has (kept known)) (reached_ahead (program_of s) (version_at s v) (view_at s p))
    stopped-line z = rw (at-line m nv nb) (sym (ap (all (has (kept known))) (ahead-line s v p q) ∙ all_append (has (kept known)) (reaches (program_of s) (version_at s v) (instr_at s p)) (reached_ahead (program_of s) (version_at s v) (view_at s (p + q))) ∙ and-off _ (listed-not (kept known) (reaches (program_of s) (version_at s v) (instr_at s p)) (sym told ∙ z))))

-- nothing lies ahead
pub over-version : {s : List ℕ} {p q k : ℕ} → Whole s p q k → k ≡ kind.VERSION → Over s p
over-version m e = record { code = rw (at-version m e) refl; blocks = rw (at-version m e) refl }

pub over-nowhere : (s : List ℕ) (p : ℕ) → view_at s p ≡ nowhere → Over s p
over-nowhere s p e = record { code = rw e refl; blocks = rw e refl }

pub over-all : (s known : List ℕ) (v p : ℕ) → Over s p → true ≡ all (has (kept known)) (reached_ahead (program_of s) (version_at s v) (view_at s p))
unfolding reached_ahead reached_by reached_in all
over-all s known v p o = rw (o.code, o.blocks) refl

-- ---- the number of a version, and those of the versions that are reached

module _ (known : List ℕ) (f w : ℕ) where
  pub kept-few : 32 ≤ f → 0 ≡ kept_at known f w
  unfolding kept_at
  kept-few h = sym (rw (and-off (ltb w 4) (le-ltb f 32 h)) refl)

  pub kept-far : f < 32 → 4 ≤ w → 0 ≡ kept_at known f w
  unfolding kept_at
  kept-far h g = sym (rw (and-on (ltb w 4) (lt-ltb f 32 h), le-ltb w 4 g) refl)

  pub kept_there : f < 32 → w < 4 → known ! (4 * f + w) ≡ kept_at known f w
  unfolding kept_at
  kept_there h g = sym (rw (and-on (ltb w 4) (lt-ltb f 32 h), lt-ltb w 4 g) refl)

module _ (P : Program) (known : List ℕ) (f w : ℕ) where
  -- a version that is found has the number of its own function and version
  pub kept-found : (X : Version) → find_version P f w ≡ some X → kept known X ≡ kept_at known f w
  kept-found X e = let n = find-numbers P f w X e in rw (n.0, n.1) refl

  module _ (p : Version → Bool) (n : ℕ) (more : List Version) where
    -- none there, or none that passes
    pub most-missing : find_version P f w ≡ none → most (kept known) n (passing p (find_version P f w) ++ more) ≡ most (kept known) n more
    unfolding passing
    most-missing e = rw e refl

    pub most-passed : (X : Version) → find_version P f w ≡ some X → p X ≡ false → most (kept known) n (passing p (find_version P f w) ++ more) ≡ most (kept known) n more
    unfolding passing
    most-passed X e h = rw (e, h) refl

    -- one that is not listed, and one that is
    pub most-open : (X : Version) → find_version P f w ≡ some X → p X ≡ true → {y : ℕ} → y ≡ kept_at known f w → y ≡ 0 → most (kept known) n (passing p (find_version P f w) ++ more) ≡ 0
    unfolding passing most
    most-open X e h r z = rw (e, h, eq-eqb (kept known X) 0 (kept-found X e ∙ sym r ∙ z)) refl

    pub most-more : (X : Version) → find_version P f w ≡ some X → p X ≡ true → {y : ℕ} → y ≡ kept_at known f w → (y ≡ 0 → ⊥) → most (kept known) n (passing p (find_version P f w) ++ more) ≡ most (kept known) (greater n y) more
    unfolding passing most
    most-more X e h {y} r z =
        let k : kept known X ≡ y = kept-found X e ∙ sym r in
        rw (e, h, ne_eqb (kept known X) 0 (λ q. z (sym k ∙ q)), k) refl

-- ---- look-up in the table

module _ (s : List ℕ) (f w : ℕ) {o : Found} (looked : o ≡ version_place s f w) where
  pub found_at : (v : ℕ) → o ≡ Some v → find_version (program_of s) f w ≡ some (version_at s v)
  found_at v e = (version-found s f w v (sym looked ∙ e)).0

  pub missing_at : o ≡ None → find_version (program_of s) f w ≡ none
  missing_at e = version-missing s f w (sym looked ∙ e)

-- ---- what a CALL names

module _ (P : Program) (known : List ℕ) {f w a b : ℕ} (ef : f ≡ a) (ew : w ≡ b) where
  abbrev named : ℕ
  named = most (kept known) 1 (passing (λ c. true) (find_version P a b))

  pub called-missing : find_version P f w ≡ none → 1 ≡ named
  unfolding passing most
  called-missing e = rw (← ef, ← ew, e) refl

  module _ (X : Version) (there : find_version P f w ≡ some X) {y : ℕ} (number : y ≡ kept_at known f w) where
    pub called-open : y ≡ 0 → 0 ≡ named
    unfolding passing most
    called-open z = rw (← ef, ← ew, there, eq-eqb (kept known X) 0 (kept-found P known f w X there ∙ sym number ∙ z)) refl

    pub called-listed : (y ≡ 0 → ⊥) → {x : ℕ} → x ≡ greater 1 y → x ≡ named
    unfolding passing most
    called-listed z g =
        let k : kept known X ≡ y = kept-found P known f w X there ∙ sym number in
        rw (← ef, ← ew, there, ne_eqb (kept known X) 0 (λ q. z (sym k ∙ q)), k) g

-- ---- what a DISPATCH allows, from the version w on

module _ (P : Program) (known : List ℕ) (f : ℕ) (p : Version → Bool) (n w : ℕ) where
  abbrev pub from : ℕ → ℕ → ℕ
  from m i = most (kept known) m (fitting P f p (4 - i) i)

  fitting-next : w < 4 → fitting P f p (4 - w) w ≡ passing p (find_version P f w) ++ fitting P f p (4 - (w + 1)) (w + 1)
  unfolding fitting
  fitting-next h = let z : 4 - w ≡ suc (4 - (w + 1)) = omega arith in rw (z, add-one w) refl

  module _ (h : w < 4) where
    pub from-missing : find_version P f w ≡ none → from n w ≡ from n (w + 1)
    from-missing e = ap (most (kept known) n) (fitting-next h) ∙ most-missing P known f w p n _ e

    module _ (X : Version) (there : find_version P f w ≡ some X) where
      pub from-passed : p X ≡ false → from n w ≡ from n (w + 1)
      from-passed e = ap (most (kept known) n) (fitting-next h) ∙ most-passed P known f w p n _ X there e

      module _ (allowed : p X ≡ true) {y : ℕ} (number : y ≡ kept_at known f w) where
        pub from-open : y ≡ 0 → from n w ≡ 0
        from-open z = ap (most (kept known) n) (fitting-next h) ∙ most-open P known f w p n _ X there allowed number z

        pub from_more : (y ≡ 0 → ⊥) → {x : ℕ} → x ≡ greater n y → from n w ≡ from x (w + 1)
        from_more z {x} e = ap (most (kept known) n) (fitting-next h) ∙ most-more P known f w p n _ X there allowed number z ∙ ap (λ (m : ℕ). from m (w + 1)) (sym e)

  pub from_last : 4 ≤ w → from n w ≡ n
  unfolding fitting most
  from_last h = let z : 4 - w ≡ 0 = omega arith in rw z refl

-- ---- what an instruction reaches, by the kind of its record

module _ (P : Program) (X : Version) (s : List ℕ) (p : ℕ) where
  pub reaches-call : kind_at s p ≡ kind.CALL → reaches P X (instr_at s p) ≡ passing (λ c. true) (find_version P (body_at s p ! 1) (body_at s p ! 2))
  unfolding reaches instr_at instr_by choose
  reaches-call e = simp e

  pub reaches-dispatch : kind_at s p ≡ kind.DISPATCH
      → reaches P X (instr_at s p) ≡ fitting P (body_at s p ! 1) (allows X.level (body_at s p ! 2) (body_at s p ! 3) (arguments (body_at s p) 5 (body_at s p ! 4))) 4 0
  unfolding reaches instr_at instr_by choose
  reaches-dispatch e = simp e

  pub reaches-none : (kind_at s p ≡ kind.CALL → ⊥) → (kind_at s p ≡ kind.DISPATCH → ⊥) → reaches P X (instr_at s p) ≡ []
  unfolding reaches instr_at instr_by Rows
  reaches-none nc nd = choose-each (λ (i : Instr). reaches P X i ≡ []) (kind_at s p) _ _ refl
      (λ e. refl, (λ e. refl, (λ e. refl, (λ e. refl, (λ e. refl, (λ e. refl, (λ e. refl, (λ e. refl, (λ e. refl, (λ e. refl, (λ e. refl, (λ e. refl, (λ e. refl, (λ e. refl, (λ e. refl, (λ e. refl, (λ e. absurd (nc e), (λ e. absurd (nd e), (λ e. refl, tt)))))))))))))))))))

  -- one step where nothing is reached
  pub most-plain : (g : Version → ℕ) → (kind_at s p ≡ kind.CALL → ⊥) → (kind_at s p ≡ kind.DISPATCH → ⊥) → 1 ≡ most g 1 (reaches P X (instr_at s p))
  unfolding most
  most-plain g nc nd = rw (reaches-none nc nd) refl
