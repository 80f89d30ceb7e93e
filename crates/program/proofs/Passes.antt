-- A question to the program, as a pass along the records puts it.
use Rattle.std.specs.Prelude.{None, Some}
use mathlib.Core.Path.{◌≡◌, refl, sym, ap, ◌∙◌}
use Rattle.layout.specs.Found.{Found}
use mathlib.Core.List.{List, [], ◌∷◌}
use mathlib.Core.Bool.{Bool, true, false, cond, true≢false}
use Prim.Native.Nat.{ℕ, zero, suc, ◌+◌, ◌-◌, ◌≤◌, ◌<◌}
use native.Mathlib.Numerals.{add-one}
use native.Mathlib.Omega.{arith}
use lib.ListN.{length}
use lib.Dec.{ltb, eqb}
use borrow.Author.Tests.{ne_eqb, lt-ltb, le-ltb, eqb-true, eqb-false}
use Rattle.layout.specs.Kinds as kind
use Rattle.layout.specs.Tests.{◌and◌}
use Rattle.layout.specs.Records.{size_at, kind_at, rec_at, records, choose}
use Rattle.layout.proofs.Bools.{and-on, and-off}
use Rattle.layout.proofs.Walk.{size_room}
use Rattle.program.specs.Program.{Line, Block, Version, View, nowhere, level_of, line_of, program}
use Rattle.program.specs.Search.{Question, first_line, first_block, first}
use Rattle.program.specs.Places.{view_at, version_at, block_at, instr_at, moved_to, asked}
use Rattle.program.specs.declared.Here.{Here}
use Rattle.program.proofs.Views.{view-end, view-past, Whole, at-version, at_block, at-line}

-- what is left of a question, by what is seen: outside of all versions (no version holds the place), in the version v with so many blocks begun
unfoldable pub left : Question → Bool → Version → ℕ → View → Found
left q false v b w = first q w.versions
left q true v zero w = first_block q v 0 w.blocks (first q w.versions)
left q true v (suc n) w = first_line q v n w.code (first_block q v (n + 1) w.blocks (first q w.versions))

abbrev pub left_at : Question → List ℕ → Here → ℕ → Found
left_at q s h p = left q (ltb h.version (length s)) (version_at s h.version) h.blocks (view_at s p)

-- A pass has come to p and stands at h: what is left of the question is put to what is seen from there.
pub record Asking (q : Question) (answer : Found) (s : List ℕ) (p : ℕ) (h : Here) : Type 0 where
  pub inside : p ≤ length s
  pub few : h.blocks ≤ p
  pub left : answer ≡ left_at q s h p

pub start : (q : Question) (s : List ℕ) → Asking q (first q (program (records s))) s 0 (record { version = length s; blocks = 0 })
unfolding left
start q s = record { inside = omega arith; few = omega arith; left = simp (le-ltb (length s) (length s) (omega arith)) }

left-nowhere : (q : Question) (i : Bool) (v : Version) (b : ℕ) → left q i v b nowhere ≡ None
unfolding left first first_block first_line
left-nowhere q false v b = refl
left-nowhere q true v zero = refl
left-nowhere q true v (suc n) = refl

module _ {q : Question} {answer : Found} {s : List ℕ} {p : ℕ} {h : Here} (a : Asking q answer s p h) where
  ended : view_at s p ≡ nowhere → None ≡ answer
  ended e = sym (a.left ∙ ap (left q (ltb h.version (length s)) (version_at s h.version) h.blocks) e ∙ left-nowhere q _ _ _)

  pub at-end : length s ≤ p → None ≡ answer
  at-end l = ended (view-end s p l)

  pub at-broken : {n : ℕ} → n ≡ size_at s p → n ≡ 0 → None ≡ answer
  at-broken e z = ended (view-past s p (sym e ∙ z))

-- ---- what is left at a VERSION, at a BLOCK and at an instruction

module _ (q : Question) (v : Version) (w : View) where
  at-a-version : (i : Bool) (b : ℕ) (x : Version) → x.blocks ≡ w.blocks
      → left q i v b (record { level = 0; code = []; blocks = []; versions = x ∷ w.versions }) ≡ cond (q.of_version x) (left q true x 0 w) (Some x.at)
  unfolding left first first_block first_line
  at-a-version false b x e = rw e
  at-a-version true zero x e = rw e
  at-a-version true (suc n) x e = rw e

  at-a-block : (b : ℕ) (x : Block) → x.code ≡ w.code
      → left q true v b (record { level = 0; code = []; blocks = x ∷ w.blocks; versions = w.versions }) ≡ cond (q.of_block v b x) (left q true v (suc b) w) (Some x.at)
  unfolding left first first_block first_line
  at-a-block zero x e = rw e
  at-a-block (suc n) x e = simp (e, add-one)

  at-a-line : (n g : ℕ) (l : Line)
      → left q true v (suc n) (record { level = g; code = l ∷ w.code; blocks = w.blocks; versions = w.versions }) ≡ cond (q.of_instr v n l.does) (left q true v (suc n) w) (Some l.at)
  unfolding left first first_block first_line
  at-a-line n g l = refl

  -- a BLOCK outside of all versions, and an instruction outside of all blocks
  stray-block : (b c : ℕ) (x : Block) → left q false v b (record { level = 0; code = []; blocks = x ∷ w.blocks; versions = w.versions }) ≡ left q false v c w
  unfolding left
  stray-block b c x = refl

  stray-line : (i : Bool) (b g : ℕ) (l : Line) → (i and ltb 0 b) ≡ false → left q i v b (record { level = g; code = l ∷ w.code; blocks = w.blocks; versions = w.versions }) ≡ left q i v b w
  unfolding left ◌and◌
  stray-line false b g l e = refl
  stray-line true zero g l e = refl
  stray-line true (suc n) g l e = absurd (true≢false (sym (lt-ltb 0 (suc n) (omega arith)) ∙ e))

-- ---- THE LAW: a pass meets a whole record

-- what a pass that stands at h behind the record at p goes on with
abbrev onward : Question → List ℕ → Here → ℕ → ℕ → Found
onward q s h p n = cond (asked q s h p) (left_at q s h (p + n)) (Some p)

module _ {s : List ℕ} {p n k : ℕ} (m : Whole s p n k) (q : Question) (h : Here) where
  version-case : k ≡ kind.VERSION → left_at q s h p ≡ onward q s (record { version = p; blocks = 0 }) p n
  unfolding asked choose version_at
  version-case e =
      ap (left q (ltb h.version (length s)) (version_at s h.version) h.blocks) (at-version m e)
      ∙ at-a-version q (version_at s h.version) (view_at s (p + n)) (ltb h.version (length s)) h.blocks (version_at s p) (ap (λ (x : ℕ). (view_at s (p + x)).blocks) (sym m.size))
      ∙ simp (sym m.kind ∙ e, lt-ltb p (length s) m.inside)

  block-case : k ≡ kind.BLOCK → left_at q s h p ≡ onward q s (record { version = h.version; blocks = h.blocks + 1 }) p n
  unfolding asked choose block_at ◌and◌
  block-case e =
      ap (left q (ltb h.version (length s)) (version_at s h.version) h.blocks) (at_block m e)
      ∙ go (ltb h.version (length s)) ∙ simp (sym m.kind ∙ e)
    where
      less : h.blocks + 1 - 1 ≡ h.blocks
      less = omega arith

      some : ltb 0 (h.blocks + 1) ≡ true
      some = lt-ltb 0 (h.blocks + 1) (omega arith)

      go : (i : Bool) → left q i (version_at s h.version) h.blocks (record { level = 0; code = []; blocks = block_at s p ∷ (view_at s (p + n)).blocks; versions = (view_at s (p + n)).versions })
          ≡ cond (cond (i and ltb 0 (h.blocks + 1)) (q.of_block (version_at s h.version) (h.blocks + 1 - 1) (block_at s p)) true) (left q i (version_at s h.version) (h.blocks + 1) (view_at s (p + n))) (Some p)
      go true = rw (some, less, add-one) (at-a-block q (version_at s h.version) (view_at s (p + n)) h.blocks (block_at s p) (ap (λ (x : ℕ). (view_at s (p + x)).code) (sym m.size)))
      go false = stray-block q (version_at s h.version) (view_at s (p + n)) h.blocks (h.blocks + 1) (block_at s p)

  line-case : (k ≡ kind.VERSION → ⊥) → (k ≡ kind.BLOCK → ⊥) → left_at q s h p ≡ onward q s h p n
  unfolding asked choose instr_at ◌and◌
  line-case x y =
      ap (left q (ltb h.version (length s)) (version_at s h.version) h.blocks) (at-line m x y)
      ∙ go (ltb h.version (length s)) h.blocks (ltb h.version (length s) and ltb 0 h.blocks) refl
      ∙ simp (← m.kind, ne_eqb k kind.VERSION x, ne_eqb k kind.BLOCK y)
    where
      go : (i : Bool) (b : ℕ) (c : Bool) → (i and ltb 0 b) ≡ c
          → left q i (version_at s h.version) b (record { level = level_of (rec_at s p); code = line_of (rec_at s p) ∷ (view_at s (p + n)).code; blocks = (view_at s (p + n)).blocks; versions = (view_at s (p + n)).versions })
          ≡ cond (cond c (q.of_instr (version_at s h.version) (b - 1) (instr_at s p)) true) (left q i (version_at s h.version) b (view_at s (p + n))) (Some p)
      go i b false e = stray-line q (version_at s h.version) (view_at s (p + n)) i b (level_of (rec_at s p)) (line_of (rec_at s p)) e
      go false b true e = absurd (true≢false (sym e))
      go true zero true e = absurd (true≢false (sym e))
      go true (suc l) true e = let less : suc l - 1 ≡ l = omega arith in rw less (at-a-line q (version_at s h.version) (view_at s (p + n)) l (level_of (rec_at s p)) (line_of (rec_at s p)))

  meets : h.blocks < length s → left_at q s h p ≡ onward q s (moved_to s h p) p n
  unfolding moved_to choose
  meets f = go (eqb k kind.VERSION) (eqb k kind.BLOCK) refl refl
    where
      go : (a b : Bool) → eqb k kind.VERSION ≡ a → eqb k kind.BLOCK ≡ b → left_at q s h p ≡ onward q s (moved_to s h p) p n
      go true b ea eb = let e : kind_at s p ≡ kind.VERSION = sym m.kind ∙ eqb-true k kind.VERSION ea in version-case (eqb-true k kind.VERSION ea) ∙ simp e
      go false true ea eb = let e : kind_at s p ≡ kind.BLOCK = sym m.kind ∙ eqb-true k kind.BLOCK eb in block-case (eqb-true k kind.BLOCK eb) ∙ simp (e, lt-ltb h.blocks (length s) f)
      go false false ea eb = line-case (eqb-false k kind.VERSION ea) (eqb-false k kind.BLOCK eb) ∙ simp (← m.kind, ea, eb)

-- blocks begun
moved-few : (s : List ℕ) (h : Here) (p : ℕ) → h.blocks ≤ p → (moved_to s h p).blocks ≤ p + 1
unfolding moved_to choose
moved-few s h p e = go (eqb (kind_at s p) kind.VERSION) (eqb (kind_at s p) kind.BLOCK) (ltb h.blocks (length s))
  where
    go : (a b c : Bool) → (cond {A = Here} a (record { version = p; blocks = 0 }) (cond b (record { version = h.version; blocks = cond c (h.blocks + 1) h.blocks }) h)).blocks ≤ p + 1
    go true b c = omega arith
    go false true true = omega arith
    go false true false = omega arith
    go false false c = omega arith

module _ {q : Question} {answer : Found} {s : List ℕ} {p n k : ℕ} {h g : Here} (a : Asking q answer s p h) (m : Whole s p n k) (e : g ≡ moved_to s h p) where
  pub say-no : asked q s g p ≡ false → Some p ≡ answer
  say-no r = sym (a.left ∙ meets m q h (omega (arith, a.few, m.inside)) ∙ rw (← e, r))

  pub go_on : asked q s g p ≡ true → Asking q answer s (p + n) g
  go_on r = record {
    inside = rw m.size (size_room s p a.inside);
    few = rw e (omega (arith, moved-few s h p a.few, m.whole));
    left = a.left ∙ meets m q h (omega (arith, a.few, m.inside)) ∙ rw (← e, r);
  }

-- ---- what is asked of a record, by its kind

module _ (q : Question) (s : List ℕ) (h : Here) (p : ℕ) {k : ℕ} (e : k ≡ kind_at s p) where
  pub asked-version : k ≡ kind.VERSION → asked q s h p ≡ q.of_version (version_at s p)
  unfolding asked choose
  asked-version x = simp (sym e ∙ x)

  pub asked-block : k ≡ kind.BLOCK → h.version < length s → (h.blocks ≡ 0 → ⊥) → asked q s h p ≡ q.of_block (version_at s h.version) (h.blocks - 1) (block_at s p)
  unfolding asked choose ◌and◌
  asked-block x i b = simp (sym e ∙ x, lt-ltb h.version (length s) i, lt-ltb 0 h.blocks (omega arith))

  pub asked-line : (k ≡ kind.VERSION → ⊥) → (k ≡ kind.BLOCK → ⊥) → h.version < length s → (h.blocks ≡ 0 → ⊥) → asked q s h p ≡ q.of_instr (version_at s h.version) (h.blocks - 1) (instr_at s p)
  unfolding asked choose ◌and◌
  asked-line x y i b = simp (← e, ne_eqb k kind.VERSION x, ne_eqb k kind.BLOCK y, lt-ltb h.version (length s) i, lt-ltb 0 h.blocks (omega arith))

  -- a record that belongs to no version or block
  stray : (k ≡ kind.VERSION → ⊥) → (ltb h.version (length s) and ltb 0 h.blocks) ≡ false → asked q s h p ≡ true
  unfolding asked choose
  stray x z = rw (← e, ne_eqb k kind.VERSION x, z) (go (eqb k kind.BLOCK))
    where
      go : (b : Bool) → cond b true true ≡ true
      go true = refl
      go false = refl

  pub asked-outside : (k ≡ kind.VERSION → ⊥) → length s ≤ h.version → asked q s h p ≡ true
  asked-outside x i = stray x (and-off _ (le-ltb h.version (length s) i))

  pub asked-before : (k ≡ kind.VERSION → ⊥) → h.blocks ≡ 0 → asked q s h p ≡ true
  asked-before x z = stray x (go (ltb h.version (length s)))
    where
      go : (b : Bool) → (b and ltb 0 h.blocks) ≡ false
      go true = and-on _ refl ∙ rw z
      go false = and-off _ refl

  -- a record that passes wherever it stands
  pub asked-anywhere : (k ≡ kind.VERSION → ⊥) → ((v : Version) (n : ℕ) → q.of_block v n (block_at s p) ≡ true) → ((v : Version) (n : ℕ) → q.of_instr v n (instr_at s p) ≡ true) → asked q s h p ≡ true
  unfolding asked choose
  asked-anywhere x b i = rw (← e, ne_eqb k kind.VERSION x) (go (eqb k kind.BLOCK) (ltb h.version (length s) and ltb 0 h.blocks))
    where
      go : (t c : Bool) → cond t (cond c (q.of_block (version_at s h.version) (h.blocks - 1) (block_at s p)) true) (cond c (q.of_instr (version_at s h.version) (h.blocks - 1) (instr_at s p)) true) ≡ true
      go true true = b _ _
      go true false = refl
      go false true = i _ _
      go false false = refl

  -- a record that is no BLOCK, where only blocks are asked
  pub asked-no-block : (k ≡ kind.BLOCK → ⊥) → q.of_version (version_at s p) ≡ true → ((v : Version) (n : ℕ) → q.of_instr v n (instr_at s p) ≡ true) → asked q s h p ≡ true
  unfolding asked choose
  asked-no-block x w i = rw (← e, ne_eqb k kind.BLOCK x) (go (eqb k kind.VERSION) (ltb h.version (length s) and ltb 0 h.blocks))
    where
      go : (t c : Bool) → cond t (q.of_version (version_at s p)) (cond c (q.of_instr (version_at s h.version) (h.blocks - 1) (instr_at s p)) true) ≡ true
      go true c = w
      go false true = i _ _
      go false false = refl
