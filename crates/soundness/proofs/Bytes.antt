-- The bytes of a version make an image of that version alone: so the same bytes make the same version.
use Rattle.std.specs.Prelude.{None}
use mathlib.Core.Path.{◌≡◌, refl, sym, ap, ap₂, ◌∙◌, subst}
use mathlib.Core.List.{List, [], ◌∷◌, map}
use mathlib.Core.Option.{none, some}
use mathlib.Core.Bool.{Bool, true, false, cond, ◌||◌}
use Prim.Native.Nat.{ℕ, zero, suc, ◌+◌, ◌-◌, ◌≤◌, ◌<◌}
use native.Mathlib.Nat.{sub-zero, add-zero}
use native.Mathlib.Decide.{dec_lt, ℕ_discrete}
use native.Mathlib.Omega.{arith}
use lib.ListN.{length, drop, take, length-drop}
use lib.Seq.{length-take-le, take-nil, get_or-take, get_or-drop, take-take, drop-drop}
use lib.Dec.{eqb, ltb}
use borrow.Author.Tests.{ltb-true, ltb-false, ne_eqb}
use Rattle.layout.specs.Kinds as kind
use Rattle.layout.specs.Tests.{◌and◌}
use Rattle.layout.specs.Records.{◌!◌, Rec, u16_at, size_at, kind_at, body_at, rec_at, rest, records, fields}
use Rattle.layout.specs.Scan.{scan}
use Rattle.layout.specs.Questions.{question2}
use Rattle.layout.proofs.Bools.{and_both}
use Rattle.layout.proofs.Walk.{rest-cons, size-at, whole_length}
use Rattle.program.specs.Program.{Line, Block, Version, Program, View, block_of, level_of, line_of, version_of, nowhere, program, find_version}
use Rattle.program.specs.Places.{view_at, past, version_at, block_at}
use Rattle.program.proofs.Laid.{passed}
use Rattle.program.proofs.Views.{view-end, Whole, at-version, at_block, at-line}
use Rattle.runs.specs.Alike.{bare_line, bare_block, Alike}
use Rattle.machine.specs.Changes.{start_of, slice, bytes_in}

-- ---- lists

drop-take : {A : Type 0} (i m : ℕ) (l : List A) → drop i (take m l) ≡ take (m - i) (drop i l)
drop-take zero m l = simp sub-zero refl
drop-take (suc i) zero l = let z : 0 - suc i ≡ 0 = omega arith in rw z refl
drop-take {A} (suc i) (suc m) [] = sym (take-nil {A = A} (suc m - suc i))
drop-take (suc i) (suc m) (x ∷ l) = let z : suc m - suc i ≡ m - i = omega arith in rw z (drop-take i m l)

-- ---- records that are whole

whole-at : (s : List ℕ) (p : ℕ) → p < length s → question2 (rest s p) ≡ None → (0 < size_at s p) × (question2 (rest s (p + size_at s p)) ≡ None)
unfolding question2 scan
whole-at s p h q =
    let e : question2 (rec_at s p ∷ cond (eqb (size_at s p) 0) [] (rest s (p + size_at s p))) ≡ None = sym (ap question2 (rest-cons s p h)) ∙ q in
    let t = passed (ltb 0 (size_at s p) and true) (question2 (cond (eqb (size_at s p) 0) [] (rest s (p + size_at s p)))) p e in
    let l : 0 < size_at s p = ltb-true 0 (size_at s p) (and_both (ltb 0 (size_at s p)) true t.0).0 in
    (l, rw (ne_eqb (size_at s p) 0 (λ z. absurd (omega (arith, l, z)))) at t.1)

-- a whole record has a head, and ends inside
whole-size : (s : List ℕ) (p : ℕ) → 0 < size_at s p → (4 ≤ size_at s p) × (p + size_at s p ≤ length s) × (size_at s p ≡ u16_at s p)
whole-size s p h = go (ltb (length s - p) 4) (ltb (u16_at s p) 4) (ltb (length s - p) (u16_at s p)) refl refl refl (size-at s p)
  where
    go : (a b c : Bool) → ltb (length s - p) 4 ≡ a → ltb (u16_at s p) 4 ≡ b → ltb (length s - p) (u16_at s p) ≡ c → size_at s p ≡ cond (a || b || c) 0 (u16_at s p) → (4 ≤ size_at s p) × (p + size_at s p ≤ length s) × (size_at s p ≡ u16_at s p)
    go true b c x y z e = absurd (omega (arith, h, e))
    go false true c x y z e = absurd (omega (arith, h, e))
    go false false true x y z e = absurd (omega (arith, h, e))
    go false false false x y z e = (omega (arith, e, ltb-false (u16_at s p) 4 y), omega (arith, e, ltb-false (length s - p) 4 x, ltb-false (length s - p) (u16_at s p) z), e)

-- ---- a part of an image

module _ (s : List ℕ) (a e : ℕ) (ae : a ≤ e) (es : e ≤ length s) where
  part_length : length (slice s a e) ≡ e - a
  unfolding slice
  part_length = length-take-le (e - a) (drop a s) (rw length-drop (omega arith))

  part-byte : (k : ℕ) → k < e - a → slice s a e ! k ≡ s ! (a + k)
  unfolding slice
  part-byte k h = get_or-take (e - a) (drop a s) k 0 h ∙ get_or-drop a s k 0

  -- a record that ends within the part
  module _ (i : ℕ) (w : 0 < size_at s (a + i)) (in-part : i + size_at s (a + i) ≤ e - a) where
    n : ℕ
    n = size_at s (a + i)

    part-u16 : (k : ℕ) → k + 2 ≤ 4 → u16_at (slice s a e) (i + k) ≡ u16_at s (a + i + k)
    part-u16 k h =
        let q = (whole-size s (a + i) w).0 in
        let x : a + (i + k) ≡ a + i + k = omega arith in
        let y : a + (i + k + 1) ≡ a + i + k + 1 = omega arith in
        rw (part-byte (i + k) (omega (arith, q, in-part)), part-byte (i + k + 1) (omega (arith, q, in-part)), x, y) refl

    part-size : size_at (slice s a e) i ≡ size_at s (a + i)
    part-size =
        let q = whole-size s (a + i) w in
        let u : u16_at (slice s a e) i ≡ u16_at s (a + i) = simp add-zero at (part-u16 0 (omega arith)) in
        whole_length (slice s a e) i (rw part_length (omega (arith, q.0, in-part))) (rw u (omega (arith, q.0, q.2))) (rw (u, part_length) (omega (arith, q.2, in-part))) ∙ u ∙ sym q.2

    -- its head is the same
    part-head : (k : ℕ) → k < 4 → drop i (slice s a e) ! k ≡ drop (a + i) s ! k
    part-head k h =
        let q = (whole-size s (a + i) w).0 in
        let x : a + (i + k) ≡ a + i + k = omega arith in
        get_or-drop i (slice s a e) k 0 ∙ part-byte (i + k) (omega (arith, q, in-part)) ∙ rw x (sym (get_or-drop (a + i) s k 0))

    part-kind : kind_at (slice s a e) i ≡ kind_at s (a + i)
    unfolding kind_at
    part-kind = rw (part-head 2 (omega arith), part-head 3 (omega arith)) refl

    part_body : body_at (slice s a e) i ≡ body_at s (a + i)
    unfolding body_at slice
    part_body =
        let q = (whole-size s (a + i) w).0 in
        let m = e - a in
        let d = drop a s in
        ap (λ (k : ℕ). take (k - 4) (drop 4 (drop i (take m d)))) part-size
        ∙ ap (λ (l : List ℕ). take (size_at s (a + i) - 4) (drop 4 l)) (drop-take i m d)
        ∙ ap (λ (l : List ℕ). take (size_at s (a + i) - 4) l) (drop-take 4 (m - i) (drop i d))
        ∙ take-take (size_at s (a + i) - 4) (m - i - 4) (drop 4 (drop i d)) (omega (arith, q, in-part))
        ∙ ap (λ (l : List ℕ). take (size_at s (a + i) - 4) (drop 4 l)) (drop-drop i a s)

-- ---- what stands at an offset

-- nothing more, a VERSION, a BLOCK or another record, whole
data Seen (s : List ℕ) (p : ℕ) : Type 0 where
  at_none : length s ≤ p → view_at s p ≡ nowhere → Seen s p
  at-a-version : p < length s → 0 < size_at s p → question2 (rest s (past s p)) ≡ None → kind_at s p ≡ kind.VERSION
      → view_at s p ≡ record { level = 0; code = []; blocks = []; versions = version_at s p ∷ (view_at s (past s p)).versions } → Seen s p
  at-a-block : p < length s → 0 < size_at s p → question2 (rest s (past s p)) ≡ None → kind_at s p ≡ kind.BLOCK
      → view_at s p ≡ record { level = 0; code = []; blocks = block_at s p ∷ (view_at s (past s p)).blocks; versions = (view_at s (past s p)).versions } → Seen s p
  at-a-line : p < length s → 0 < size_at s p → question2 (rest s (past s p)) ≡ None → (kind_at s p ≡ kind.VERSION → ⊥) → (kind_at s p ≡ kind.BLOCK → ⊥)
      → view_at s p ≡ record { level = level_of (rec_at s p); code = line_of (rec_at s p) ∷ (view_at s (past s p)).code; blocks = (view_at s (past s p)).blocks; versions = (view_at s (past s p)).versions } → Seen s p

whole_here : (s : List ℕ) (p : ℕ) → p < length s → 0 < size_at s p → Whole s p (size_at s p) (kind_at s p)
whole_here s p h w = record { inside = h; size = refl; whole = λ z. absurd (omega (arith, w, z)); kind = refl }

see : (s : List ℕ) (p : ℕ) → question2 (rest s p) ≡ None → Seen s p
see s p q = go (dec_lt p (length s))
  where
    go : Dec (p < length s) → Seen s p
    go (no h) = at_none (omega arith) (view-end s p (omega arith))
    go (yes h) = kinds (ℕ_discrete (kind_at s p) kind.VERSION) (ℕ_discrete (kind_at s p) kind.BLOCK)
      where
        t : (0 < size_at s p) × (question2 (rest s (p + size_at s p)) ≡ None)
        t = whole-at s p h q

        kinds : Dec (kind_at s p ≡ kind.VERSION) → Dec (kind_at s p ≡ kind.BLOCK) → Seen s p
        kinds (yes v) b = at-a-version h t.0 t.1 v (at-version (whole_here s p h t.0) v)
        kinds (no v) (yes b) = at-a-block h t.0 t.1 b (at_block (whole_here s p h t.0) b)
        kinds (no v) (no b) = at-a-line h t.0 t.1 v b (at-line (whole_here s p h t.0) v b)

-- the first version ahead stands ahead, inside
abbrev ahead : List ℕ → ℕ → ℕ
ahead s p = start_of (length s) (view_at s p).versions

abbrev AheadIn : List ℕ → ℕ → Type 0
AheadIn s p = (p ≤ ahead s p) × (ahead s p ≤ length s)

ahead_step : (s : List ℕ) (p : ℕ) → p ≤ length s → Seen s p → ((p' : ℕ) → p < p' → p' ≤ length s → question2 (rest s p') ≡ None → AheadIn s p') → AheadIn s p
unfolding start_of version_at
ahead_step s p h (at_none l e) ih = rw e (h, omega arith)
ahead_step s p h (at-a-version l w q k e) ih = rw e (omega arith, h)
ahead_step s p h (at-a-block l w q k e) ih =
    let z = whole-size s p w in
    let t = ih (past s p) (omega (arith, w)) z.1 q in
    rw e (omega (arith, t.0), t.1)
ahead_step s p h (at-a-line l w q k b e) ih =
    let z = whole-size s p w in
    let t = ih (past s p) (omega (arith, w)) z.1 q in
    rw e (omega (arith, t.0), t.1)

ahead-fuel : (s : List ℕ) (m p : ℕ) → length s - p ≤ m → p ≤ length s → question2 (rest s p) ≡ None → AheadIn s p
ahead-fuel s zero p f h q = ahead_step s p h (see s p q) (λ p' l l' q'. absurd (omega arith))
ahead-fuel s (suc m) p f h q = ahead_step s p h (see s p q) (λ p' l l' q'. ahead-fuel s m p' (omega arith) l' q')

ahead_in : (s : List ℕ) (p : ℕ) → p ≤ length s → question2 (rest s p) ≡ None → AheadIn s p
ahead_in s p h q = ahead-fuel s (length s - p) p (omega arith) h q

-- ---- records with the same body make the same, but for offsets

block-alike : (r q : Rec) (ls ms : List Line) → r.body ≡ q.body → map bare_line ls ≡ map bare_line ms → bare_block (block_of r ls) ≡ bare_block (block_of q ms)
block-alike r q ls ms e f =
    ap (λ (b : List ℕ). record { at = 0; mark = b ! 0; result = b ! 1; code = map bare_line ls }) e ∙ ap (λ (c : List Line). record { at = 0; mark = q.body ! 0; result = q.body ! 1; code = c }) f

version-alike : (r q : Rec) (l m : ℕ) (xs ys : List Block) → r.body ≡ q.body → l ≡ m → map bare_block xs ≡ map bare_block ys → Alike (version_of r l xs) (version_of q m ys)
unfolding Alike
version-alike r q l m xs ys e g f = ap₂ (λ (b : List ℕ) (k : ℕ). with-body b k (map bare_block xs)) e g ∙ ap (with-body q.body m) f
  where
    with-body : List ℕ → ℕ → List Block → Version
    with-body b level blocks = record { at = 0; function = b ! 0; version = b ! 1; parameters = b ! 2; types = fields b 6 (b ! 3); return = b ! 4; level = level; blocks = blocks }

-- ---- a version's part holds its level, blocks and instructions, and no other version

record Shown (s : List ℕ) (a e i : ℕ) : Type 0 where
  level : (view_at s (a + i)).level ≡ (view_at (slice s a e) i).level
  code : map bare_line (view_at s (a + i)).code ≡ map bare_line (view_at (slice s a e) i).code
  blocks : map bare_block (view_at s (a + i)).blocks ≡ map bare_block (view_at (slice s a e) i).blocks
  alone : (view_at (slice s a e) i).versions ≡ []

module _ (s : List ℕ) (a e : ℕ) (ae : a ≤ e) (es : e ≤ length s) where
  -- at its end
  shown-end : (i : ℕ) → a + i ≡ e → (view_at s (a + i)).level ≡ 0 → (view_at s (a + i)).code ≡ [] → (view_at s (a + i)).blocks ≡ [] → Shown s a e i
  shown-end i h g c b =
      let v = view-end (slice s a e) i (rw (part_length s a e ae es) (omega arith)) in
      record { level = rw (g, v) refl; code = rw (c, v) refl; blocks = rw (b, v) refl; alone = rw v refl }

  -- what lies behind a record of it that is no VERSION
  record Behind (i : ℕ) : Type 0 where
    inside : i < length (slice s a e)
    whole : 0 < size_at (slice s a e) i
    kinds : kind_at (slice s a e) i ≡ kind_at s (a + i)
    body : body_at (slice s a e) i ≡ body_at s (a + i)
    level : (view_at s (past s (a + i))).level ≡ (view_at (slice s a e) (past (slice s a e) i)).level
    code : map bare_line (view_at s (past s (a + i))).code ≡ map bare_line (view_at (slice s a e) (past (slice s a e) i)).code
    blocks : map bare_block (view_at s (past s (a + i))).blocks ≡ map bare_block (view_at (slice s a e) (past (slice s a e) i)).blocks
    alone : (view_at (slice s a e) (past (slice s a e) i)).versions ≡ []

  behind : (i : ℕ) → a + i < length s → 0 < size_at s (a + i) → question2 (rest s (past s (a + i))) ≡ None → ahead s (past s (a + i)) ≡ e
      → ((j : ℕ) → i < j → a + j ≤ length s → question2 (rest s (a + j)) ≡ None → ahead s (a + j) ≡ e → Shown s a e j) → Behind i
  behind i l w q d ih =
      let z = whole-size s (a + i) w in
      let t = ahead_in s (past s (a + i)) z.1 q in
      let g : i + size_at s (a + i) ≤ e - a = omega (arith, t.0, d, ae) in
      let x : past s (a + i) ≡ a + (i + size_at s (a + i)) = omega arith in
      let y : past (slice s a e) i ≡ i + size_at s (a + i) = ap (λ (n : ℕ). i + n) (part-size s a e ae es i w g) in
      let n = ih (i + size_at s (a + i)) (omega (arith, w)) (omega (arith, z.1)) (rw x at q) (rw x at d) in
      record {
        inside = rw (part_length s a e ae es) (omega (arith, g, z.0));
        whole = rw (part-size s a e ae es i w g) w;
        kinds = part-kind s a e ae es i w g;
        body = part_body s a e ae es i w g;
        level = rw (x, y) n.level;
        code = rw (x, y) n.code;
        blocks = rw (x, y) n.blocks;
        alone = rw y n.alone;
      }

  shown-block : (i : ℕ) → kind_at s (a + i) ≡ kind.BLOCK → view_at s (a + i) ≡ record { level = 0; code = []; blocks = block_at s (a + i) ∷ (view_at s (past s (a + i))).blocks; versions = (view_at s (past s (a + i))).versions } → Behind i → Shown s a e i
  unfolding block_at
  shown-block i k v n =
      let u = at_block (whole_here (slice s a e) i n.inside n.whole) (n.kinds ∙ k) in
      record {
        level = rw (v, u) refl;
        code = rw (v, u) refl;
        blocks = rw (v, u) (ap₂ (λ (x : Block) (xs : List Block). x ∷ xs) (block-alike (rec_at s (a + i)) (rec_at (slice s a e) i) (view_at s (past s (a + i))).code (view_at (slice s a e) (past (slice s a e) i)).code (sym n.body) n.code) n.blocks);
        alone = rw u n.alone;
      }

  shown-line : (i : ℕ) → (kind_at s (a + i) ≡ kind.VERSION → ⊥) → (kind_at s (a + i) ≡ kind.BLOCK → ⊥) → view_at s (a + i) ≡ record { level = level_of (rec_at s (a + i)); code = line_of (rec_at s (a + i)) ∷ (view_at s (past s (a + i))).code; blocks = (view_at s (past s (a + i))).blocks; versions = (view_at s (past s (a + i))).versions } → Behind i → Shown s a e i
  shown-line i k b v n =
      let u = at-line (whole_here (slice s a e) i n.inside n.whole) (λ z. k (sym n.kinds ∙ z)) (λ z. b (sym n.kinds ∙ z)) in
      record {
        level = rw (v, u) (rw (n.kinds, n.body) refl);
        code = rw (v, u) (rw (n.kinds, n.body) (ap (λ (c : List Line). bare_line (line_of (rec_at s (a + i))) ∷ c) n.code));
        blocks = rw (v, u) n.blocks;
        alone = rw u n.alone;
      }

  shown-step : (i : ℕ) → a + i ≤ length s → question2 (rest s (a + i)) ≡ None → ahead s (a + i) ≡ e → Seen s (a + i) → ((j : ℕ) → i < j → a + j ≤ length s → question2 (rest s (a + j)) ≡ None → ahead s (a + j) ≡ e → Shown s a e j) → Shown s a e i
  unfolding start_of version_at
  shown-step i h q d (at_none l v) ih = shown-end i (omega (arith, l, h, (rw v at d))) (rw v refl) (rw v refl) (rw v refl)
  shown-step i h q d (at-a-version l w q' k v) ih = shown-end i (rw v at d) (rw v refl) (rw v refl) (rw v refl)
  shown-step i h q d (at-a-block l w q' k v) ih = shown-block i k v (behind i l w q' (rw v at d) ih)
  shown-step i h q d (at-a-line l w q' k b v) ih = shown-line i k b v (behind i l w q' (rw v at d) ih)

  shown-fuel : (m i : ℕ) → length s - (a + i) ≤ m → a + i ≤ length s → question2 (rest s (a + i)) ≡ None → ahead s (a + i) ≡ e → Shown s a e i
  shown-fuel zero i f h q d = shown-step i h q d (see s (a + i) q) (λ j l l' q' d'. absurd (omega arith))
  shown-fuel (suc m) i f h q d = shown-step i h q d (see s (a + i) q) (λ j l l' q' d'. shown-fuel m j (omega arith) l' q' d')

-- ---- a version of an image, and the bytes that are its own

-- the bytes make an image of this version alone
pub record Own (v : Version) (b : List ℕ) : Type 0 where
  pub version : Version
  pub only : program (records b) ≡ version ∷ []
  pub alike : Alike v version

own-version : (s : List ℕ) (p : ℕ) → p < length s → 0 < size_at s p → question2 (rest s (past s p)) ≡ None → kind_at s p ≡ kind.VERSION → Own (version_at s p) (slice s p (ahead s (past s p)))
unfolding version_at
own-version s p l w q k =
    let z : p + 0 ≡ p = add-zero p in
    let e = ahead s (past s p) in
    let t = ahead_in s (past s p) (whole-size s p w).1 q in
    let ae : p ≤ e = omega (arith, t.0) in
    let n = behind s p e ae t.1 0 (rw z l) (rw z w) (rw z q) (rw z refl) (λ j _ h q' d. shown-fuel s p e ae t.1 (length s) j (omega arith) h q' d) in
    let body : body_at (slice s p e) 0 ≡ body_at s p = rw z at n.body in
    let u = at-version (whole_here (slice s p e) 0 n.inside n.whole) (n.kinds ∙ rw z k) in
    record {
      version = version_at (slice s p e) 0;
      only = ap (λ (x : View). x.versions) u ∙ ap (λ (l : Program). version_at (slice s p e) 0 ∷ l) n.alone;
      alike = version-alike (rec_at s p) (rec_at (slice s p e) 0) _ _ (view_at s (past s p)).blocks (view_at (slice s p e) (past (slice s p e) 0)).blocks (sym body) (rw z at n.level) (rw z at n.blocks);
    }

at_own : (s : List ℕ) (p : ℕ) → (version_at s p).at ≡ p
unfolding version_at
at_own s p = refl

some_is : {A : Type 0} {x y : A} → some x ≡ some y → x ≡ y
some_is c = cc

-- from any offset of an image whose records are whole
module _ (s : List ℕ) (f w : ℕ) (v : Version) (b : List ℕ) where
  abbrev OwnAt : ℕ → Type 0
  OwnAt p = find_version (view_at s p).versions f w ≡ some v → bytes_in s (view_at s p).versions f w ≡ some b → Own v b

  own-step : (p : ℕ) → p ≤ length s → Seen s p → ((p' : ℕ) → p < p' → p' ≤ length s → question2 (rest s p') ≡ None → OwnAt p') → OwnAt p
  unfolding find_version bytes_in
  own-step p h (at_none l x) ih e g = let y : none ≡ some v = rw x at e in let z : ◌≡◌ {A = ℕ} 0 1 = cc in absurd (omega arith)
  own-step p h (at-a-version l t q k x) ih e g = go (eqb (version_at s p).function f and eqb (version_at s p).version w) (rw x at e) (rw x at g)
    where
      go : (o : Bool) → cond o (some (version_at s p)) (find_version (view_at s (past s p)).versions f w) ≡ some v → cond o (some (slice s (version_at s p).at (ahead s (past s p)))) (bytes_in s (view_at s (past s p)).versions f w) ≡ some b → Own v b
      go true e' g' =
          let y : version_at s p ≡ v = cc in
          let a = at_own s p in
          let z : slice s p (ahead s (past s p)) ≡ b = let c : some (slice s (version_at s p).at (ahead s (past s p))) ≡ some b = g' in ap (λ (n : ℕ). slice s n (ahead s (past s p))) (sym a) ∙ some_is c in
          subst (λ (n : Version). Own n b) y (subst (λ (n : List ℕ). Own (version_at s p) n) z (own-version s p l t q k))
      go false e' g' = ih (past s p) (omega (arith, t)) (whole-size s p t).1 q e' g'
  own-step p h (at-a-block l t q k x) ih e g = ih (past s p) (omega (arith, t)) (whole-size s p t).1 q (rw x at e) (rw x at g)
  own-step p h (at-a-line l t q k y x) ih e g = ih (past s p) (omega (arith, t)) (whole-size s p t).1 q (rw x at e) (rw x at g)

  own-fuel : (m p : ℕ) → length s - p ≤ m → p ≤ length s → question2 (rest s p) ≡ None → OwnAt p
  own-fuel zero p l h q = own-step p h (see s p q) (λ p' i i' q'. absurd (omega arith))
  own-fuel (suc m) p l h q = own-step p h (see s p q) (λ p' i i' q'. own-fuel m p' (omega arith) i' q')

  -- THE LAW: the bytes of a version make an image of it alone
  pub own : question2 (records s) ≡ None → find_version (program (records s)) f w ≡ some v → bytes_in s (program (records s)) f w ≡ some b → Own v b
  own q e g = own-fuel (length s) 0 (omega arith) (omega arith) q e g
