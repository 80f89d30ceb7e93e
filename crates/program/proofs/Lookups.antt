-- Look-ups: what stands at a place that was found, and what a loop that looks for it meets.
use Rattle.std.specs.Prelude.{None, Some}
use mathlib.Core.Path.{◌≡◌, refl, sym, ap, ◌∙◌, subst}
use Rattle.layout.specs.Found.{Found}
use mathlib.Core.List.{List, [], ◌∷◌}
use mathlib.Core.Option.{Option, none, some}
use mathlib.Core.Bool.{Bool, true, false, cond}
use Prim.Native.Nat.{ℕ, zero, suc, ◌+◌, ◌-◌, ◌≤◌, ◌<◌}
use native.Mathlib.Omega.{arith}
use lib.ListN.{length, get_elem?}
use lib.Dec.{ltb, leb, eqb}
use borrow.Author.Tests.{le-leb, ne_eqb, ltb-true, ltb-false, eqb-true, eqb-false}
use Rattle.layout.specs.Kinds as kind
use Rattle.layout.specs.Tests.{◌and◌}
use Rattle.layout.specs.Records.{◌!◌, size_at, kind_at, body_at, rec_at, records}
use Rattle.layout.proofs.Fields.{fields_at, every-past}
use Rattle.layout.proofs.Lists.{Each, each-get}
use Rattle.layout.proofs.Walk.{kind-outside, body-at, body-past}
use Rattle.program.specs.Program.{Line, Block, Version, Program, View, nowhere, line_of, program, find_version, first_mark}
use Rattle.program.specs.Places.{view_at, past, version_at, level_at, block_at, place_of, version_place, block_place}
use Rattle.program.proofs.Views.{view-end, view-past, Whole, at-version, at_block, at-line}

-- ---- lists

pub get-here : {A : Type 0} {i : ℕ} (x : A) (l : List A) → i ≡ 0 → get_elem? (x ∷ l) i ≡ some x
get-here x l e = rw e

pub get-more : {A : Type 0} (i : ℕ) (x : A) (l : List A) → (i ≡ 0 → ⊥) → get_elem? (x ∷ l) i ≡ get_elem? l (i - 1)
get-more zero x l z = absurd (z refl)
get-more (suc i) x l z = let e : suc i - 1 ≡ i = omega arith in rw e

pub each-find : (T : Version → Type 0) (vs : Program) (f w : ℕ) (x : Version) → Each T vs → find_version vs f w ≡ some x → T x
unfolding Each find_version
each-find T [] f w x h e = let z : ◌≡◌ {A = ℕ} 0 1 = cc in absurd (omega arith)
each-find T (v ∷ vs) f w x h e = go (eqb v.function f and eqb v.version w) (λ g. each-find T vs f w x h.1 g) e
  where
    go : (b : Bool) → (find_version vs f w ≡ some x → T x) → cond b (some v) (find_version vs f w) ≡ some x → T x
    go true ih g = let z : v ≡ x = cc in subst T z h.0
    go false ih g = ih g

-- ---- what is seen stands at its own offset

abbrev pub VersionThere : List ℕ → Version → Type 0
VersionThere s v = (v ≡ version_at s v.at) × (v.at < length s)

abbrev pub BlockThere : List ℕ → Block → Type 0
BlockThere s b = b ≡ block_at s b.at

abbrev pub LineThere : List ℕ → Line → Type 0
LineThere s l = l ≡ line_of (rec_at s l.at)

pub record Seen (s : List ℕ) (w : View) : Type 0 where
  pub code : Each (LineThere s) w.code
  pub blocks : Each (BlockThere s) w.blocks
  pub versions : Each (VersionThere s) w.versions

seen-nowhere : (s : List ℕ) → Seen s nowhere
unfolding Each
seen-nowhere s = record { code = tt; blocks = tt; versions = tt }

module _ (s : List ℕ) (p : ℕ) (m : Whole s p (size_at s p) (kind_at s p)) (h : Seen s (view_at s (past s p))) where
  seen-version : kind_at s p ≡ kind.VERSION → Seen s (view_at s p)
  unfolding Each version_at
  seen-version e = rw (at-version m e) (record { code = tt; blocks = tt; versions = ((refl, m.inside), h.versions) })

  seen-block : kind_at s p ≡ kind.BLOCK → Seen s (view_at s p)
  unfolding Each block_at
  seen-block e = rw (at_block m e) (record { code = tt; blocks = (refl, h.blocks); versions = h.versions })

  seen-line : (kind_at s p ≡ kind.VERSION → ⊥) → (kind_at s p ≡ kind.BLOCK → ⊥) → Seen s (view_at s p)
  unfolding Each
  seen-line v b = rw (at-line m v b) (record { code = (refl, h.code); blocks = h.blocks; versions = h.versions })

  seen-record : Seen s (view_at s p)
  seen-record = go (eqb (kind_at s p) kind.VERSION) (eqb (kind_at s p) kind.BLOCK) refl refl
    where
      go : (a b : Bool) → eqb (kind_at s p) kind.VERSION ≡ a → eqb (kind_at s p) kind.BLOCK ≡ b → Seen s (view_at s p)
      go true b ea eb = seen-version (eqb-true _ _ ea)
      go false true ea eb = seen-block (eqb-true _ _ eb)
      go false false ea eb = seen-line (eqb-false _ _ ea) (eqb-false _ _ eb)

seen-from : (f : ℕ) (s : List ℕ) (p : ℕ) → length s - p ≤ f → Seen s (view_at s p)
seen-from zero s p h = rw (view-end s p (omega arith)) (seen-nowhere s)
seen-from (suc f) s p h = go (ltb p (length s)) (eqb (size_at s p) 0) refl refl (λ x. seen-from f s (past s p) x)
  where
    go : (a b : Bool) → ltb p (length s) ≡ a → eqb (size_at s p) 0 ≡ b → (length s - past s p ≤ f → Seen s (view_at s (past s p))) → Seen s (view_at s p)
    go false b ea eb k = rw (view-end s p (ltb-false p (length s) ea)) (seen-nowhere s)
    go true true ea eb k = rw (view-past s p (eqb-true (size_at s p) 0 eb)) (seen-nowhere s)
    go true false ea eb k =
        let i : p < length s = ltb-true p (length s) ea in
        let z : (size_at s p ≡ 0 → ⊥) = eqb-false (size_at s p) 0 eb in
        seen-record s p (record { inside = i; size = refl; whole = z; kind = refl }) (k (omega arith))

pub seen : (s : List ℕ) (p : ℕ) → Seen s (view_at s p)
seen s p = seen-from (length s - p) s p (omega arith)

-- ---- FROM A PLACE TO WHAT STANDS THERE

pub place_found : {A : Type 0} (at : A → ℕ) (o : Option A) (q : ℕ) → place_of at o ≡ Some q → (x : A) × (o ≡ some x) × (at x ≡ q)
unfolding place_of
place_found at none q e = let z : ◌≡◌ {A = ℕ} 0 1 = cc in absurd (omega arith)
place_found at (some x) q e = (x, refl, cc)

pub place-nothing : {A : Type 0} (at : A → ℕ) (o : Option A) → place_of at o ≡ None → o ≡ none
unfolding place_of
place-nothing at none e = refl
place-nothing at (some x) e = let z : ◌≡◌ {A = ℕ} 0 1 = cc in absurd (omega arith)

pub version-found : (s : List ℕ) (f w q : ℕ) → version_place s f w ≡ Some q → (find_version (program (records s)) f w ≡ some (version_at s q)) × (q < length s)
unfolding version_place
version-found s f w q e =
    let r = place_found (λ (v : Version). v.at) (find_version (program (records s)) f w) q e in
    let t = each-find (VersionThere s) (program (records s)) f w r.0 (seen s 0).versions r.1 in
    (r.1 ∙ ap (λ (x : Version). some x) (t.0 ∙ ap (version_at s) r.2), subst (λ (n : ℕ). n < length s) r.2 t.1)

pub version-missing : (s : List ℕ) (f w : ℕ) → version_place s f w ≡ None → find_version (program (records s)) f w ≡ none
unfolding version_place
version-missing s f w e = place-nothing (λ (v : Version). v.at) (find_version (program (records s)) f w) e

pub block-found : (s : List ℕ) (v b q : ℕ) → block_place s v b ≡ Some q → get_elem? (version_at s v).blocks b ≡ some (block_at s q)
unfolding block_place version_at
block-found s v b q e =
    let r = place_found (λ (x : Block). x.at) (get_elem? (view_at s (past s v)).blocks b) q e in
    let t = each-get (BlockThere s) (view_at s (past s v)).blocks b r.0 (seen s (past s v)).blocks r.1 in
    r.1 ∙ ap (λ (x : Block). some x) (t ∙ ap (block_at s) r.2)

pub block-missing : (s : List ℕ) (v b : ℕ) → block_place s v b ≡ None → get_elem? (version_at s v).blocks b ≡ none
unfolding block_place
block-missing s v b e = place-nothing (λ (x : Block). x.at) (get_elem? (version_at s v).blocks b) e

-- ---- what is left of a look-up at an offset

unfoldable pub version_from : List ℕ → ℕ → ℕ → ℕ → Found
version_from s p f w = place_of (λ (v : Version). v.at) (find_version (view_at s p).versions f w)

unfoldable pub block_from : List ℕ → ℕ → ℕ → Found
block_from s p b = place_of (λ (x : Block). x.at) (get_elem? (view_at s p).blocks b)

-- nothing, where nothing is seen
pub version-nowhere : (s : List ℕ) (p f w : ℕ) → view_at s p ≡ nowhere → version_from s p f w ≡ None
unfolding version_from place_of find_version
version-nowhere s p f w e = rw e

pub block-nowhere : (s : List ℕ) (p b : ℕ) → view_at s p ≡ nowhere → block_from s p b ≡ None
unfolding block_from place_of
block-nowhere s p b e = rw e

-- is the record at p the VERSION w of the function f?
abbrev pub is_version : List ℕ → ℕ → ℕ → ℕ → Bool
is_version s p f w = eqb (kind_at s p) kind.VERSION and eqb (body_at s p ! 0) f and eqb (body_at s p ! 1) w

module _ {s : List ℕ} {p n k : ℕ} (m : Whole s p n k) where
  pub find_at : (f w : ℕ) → find_version (view_at s p).versions f w ≡ cond (is_version s p f w) (some (version_at s p)) (find_version (view_at s (p + n)).versions f w)
  unfolding find_version version_at ◌and◌
  find_at f w = go (eqb k kind.VERSION) (eqb k kind.BLOCK) refl refl
    where
      go : (a b : Bool) → eqb k kind.VERSION ≡ a → eqb k kind.BLOCK ≡ b → find_version (view_at s p).versions f w ≡ cond (is_version s p f w) (some (version_at s p)) (find_version (view_at s (p + n)).versions f w)
      go true b ea eb = rw (at-version m (eqb-true _ _ ea), ap (λ (x : ℕ). eqb x kind.VERSION) (sym m.kind) ∙ ea)
      go false true ea eb = rw (at_block m (eqb-true _ _ eb), ap (λ (x : ℕ). eqb x kind.VERSION) (sym m.kind) ∙ ea)
      go false false ea eb = rw (at-line m (eqb-false _ _ ea) (eqb-false _ _ eb), ap (λ (x : ℕ). eqb x kind.VERSION) (sym m.kind) ∙ ea)

  pub version-here : (f w : ℕ) → is_version s p f w ≡ true → version_from s p f w ≡ Some p
  unfolding version_from place_of version_at
  version-here f w e = rw (find_at f w, e)

  pub version-later : (f w : ℕ) → is_version s p f w ≡ false → version_from s p f w ≡ version_from s (p + n) f w
  unfolding version_from
  version-later f w e = rw (find_at f w, e)

  -- a block: none behind a VERSION, this one or those behind it at a BLOCK, those behind it at an instruction
  pub no_block : (b : ℕ) → k ≡ kind.VERSION → block_from s p b ≡ None
  unfolding block_from place_of
  no_block b e = rw (at-version m e)

  pub block_here : (b : ℕ) → k ≡ kind.BLOCK → b ≡ 0 → block_from s p b ≡ Some p
  unfolding block_from place_of block_at
  block_here b e z = rw (at_block m e, z)

  pub block-later : (b : ℕ) → k ≡ kind.BLOCK → (b ≡ 0 → ⊥) → block_from s p b ≡ block_from s (p + n) (b - 1)
  unfolding block_from
  block-later b e z = rw (at_block m e, get-more b (block_at s p) (view_at s (p + n)).blocks z)

  pub block-behind : (b : ℕ) → (k ≡ kind.VERSION → ⊥) → (k ≡ kind.BLOCK → ⊥) → block_from s p b ≡ block_from s (p + n) b
  unfolding block_from
  block-behind b x y = rw (at-line m x y)

-- nothing stands behind the end of the image
past-outside : (s : List ℕ) (p : ℕ) → length s ≤ p → view_at s (past s p) ≡ nowhere
past-outside s p h = view-end s (past s p) (omega arith)

pub block-outside : (s : List ℕ) (v b : ℕ) → length s ≤ v → block_place s v b ≡ None
unfolding block_place place_of version_at
block-outside s v b h = rw (past-outside s v h)

-- ---- levels

-- the level that is seen is the one that the record states
pub level-seen : (s : List ℕ) (p : ℕ) → (view_at s p).level ≡ level_at s p
unfolding level_at
level-seen s p = go (ltb p (length s)) (eqb (size_at s p) 0) (eqb (kind_at s p) kind.VERSION) (eqb (kind_at s p) kind.BLOCK) refl refl refl refl
  where
    none-stated : (b : Bool) → body_at s p ! 0 ≡ 0 → 0 ≡ cond b (body_at s p ! 0) 0
    none-stated true e = sym e
    none-stated false e = refl

    go : (a b c d : Bool) → ltb p (length s) ≡ a → eqb (size_at s p) 0 ≡ b → eqb (kind_at s p) kind.VERSION ≡ c → eqb (kind_at s p) kind.BLOCK ≡ d → (view_at s p).level ≡ cond (eqb (kind_at s p) kind.LEVEL) (body_at s p ! 0) 0
    go false b c d ea eb ec ed = rw (view-end s p (ltb-false _ _ ea), kind-outside s p (ltb-false _ _ ea)) refl
    go true true c d ea eb ec ed = let z = eqb-true (size_at s p) 0 eb in rw (view-past s p z) (none-stated (eqb (kind_at s p) kind.LEVEL) (body-past s p 0 (omega (arith, z))))
    go true false true d ea eb ec ed = rw (at-version (record { inside = ltb-true _ _ ea; size = refl; whole = eqb-false _ _ eb; kind = refl }) (eqb-true _ _ ec), eqb-true (kind_at s p) kind.VERSION ec) refl
    go true false false true ea eb ec ed = rw (at_block (record { inside = ltb-true _ _ ea; size = refl; whole = eqb-false _ _ eb; kind = refl }) (eqb-true _ _ ed), eqb-true (kind_at s p) kind.BLOCK ed) refl
    go true false false false ea eb ec ed = rw (at-line (record { inside = ltb-true _ _ ea; size = refl; whole = eqb-false _ _ eb; kind = refl }) (eqb-false _ _ ec) (eqb-false _ _ ed)) refl

-- a version's level: none outside, one behind the VERSION, or another record there
pub level-outside : (s : List ℕ) (v : ℕ) → length s ≤ v → (version_at s v).level ≡ 0
unfolding version_at
level-outside s v h = rw (past-outside s v h) refl

-- a record with nothing, or 0, behind its head states none above 0
level-none : (s : List ℕ) (p : ℕ) → body_at s p ! 0 ≡ 0 → level_at s p ≡ 0
unfolding level_at
level-none s p e = go (eqb (kind_at s p) kind.LEVEL)
  where
    go : (b : Bool) → cond b (body_at s p ! 0) 0 ≡ 0
    go true = e
    go false = refl

body-first : (s : List ℕ) (p : ℕ) → s ! (p + 4) ≡ 0 → body_at s p ! 0 ≡ 0
body-first s p e = go (ltb 0 (size_at s p - 4)) refl
  where
    go : (b : Bool) → ltb 0 (size_at s p - 4) ≡ b → body_at s p ! 0 ≡ 0
    go true h = let z : p + 4 + 0 ≡ p + 4 = omega arith in (rw z at (body-at s p 0 (ltb-true _ _ h))) ∙ e
    go false h = body-past s p 0 (ltb-false _ _ h)

module _ {n : ℕ} (s : List ℕ) (v : ℕ) (behind : n ≡ size_at s v) where
  level-behind : (version_at s v).level ≡ level_at s (v + n)
  unfolding version_at
  level-behind = rw (sym behind) (level-seen s (v + n))

  pub level-zero : {b : ℕ} → b ≡ s ! (v + n + 4) → b ≡ 0 → (version_at s v).level ≡ 0
  level-zero h e = level-behind ∙ level-none s (v + n) (body-first s (v + n) (sym h ∙ e))

  pub level-short : {m : ℕ} → m ≡ size_at s (v + n) → m ≤ 4 → (version_at s v).level ≡ 0
  level-short h l = level-behind ∙ level-none s (v + n) (body-past s (v + n) 0 (omega (arith, h, l)))

  module _ {k : ℕ} (kinded : k ≡ kind_at s (v + n)) where
    pub level-stated : {m b : ℕ} → m ≡ size_at s (v + n) → 4 < m → b ≡ s ! (v + n + 4) → k ≡ kind.LEVEL → (version_at s v).level ≡ b
    unfolding level_at
    level-stated g l h e =
        let x : level_at s (v + n) ≡ body_at s (v + n) ! 0 = simp (sym kinded ∙ e) in
        let z : v + n + 4 + 0 ≡ v + n + 4 = omega arith in
        level-behind ∙ x ∙ (rw z at (body-at s (v + n) 0 (omega (arith, g, l)))) ∙ sym h

    pub level-unstated : (k ≡ kind.LEVEL → ⊥) → (version_at s v).level ≡ 0
    unfolding level_at
    level-unstated e = let x : level_at s (v + n) ≡ 0 = simp (← kinded, ne_eqb k kind.LEVEL e) in level-behind ∙ x

-- a level of 0 is above none
pub low-enough : (l m : ℕ) → l ≡ 0 → true ≡ leb l m
low-enough l m e = sym (le-leb l m (omega arith))

-- ---- marks and types

pub first-mark : (bs : List Block) (b : Block) → get_elem? bs 0 ≡ some b → first_mark bs ≡ b.mark
unfolding first_mark
first-mark [] b e = let z : ◌≡◌ {A = ℕ} 0 1 = cc in absurd (omega arith)
first-mark (x ∷ bs) b e = let z : x ≡ b = cc in ap (λ (y : Block). y.mark) z

pub no-mark : (bs : List Block) → get_elem? bs 0 ≡ none → first_mark bs ≡ 0
unfolding first_mark
no-mark [] e = refl
no-mark (x ∷ bs) e = let z : ◌≡◌ {A = ℕ} 0 1 = cc in absurd (omega arith)

pub type-inside : (s : List ℕ) (v r : ℕ) → r < body_at s v ! 3 → (version_at s v).types ! r ≡ body_at s v ! (6 + r)
unfolding version_at
type-inside s v r h = fields_at (body_at s v) 6 (body_at s v ! 3) r h

pub type-outside : (s : List ℕ) (v r : ℕ) → body_at s v ! 3 ≤ r → (version_at s v).types ! r ≡ 0
unfolding version_at
type-outside s v r h = every-past (body_at s v) 6 1 (body_at s v ! 3) r h
