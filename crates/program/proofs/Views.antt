-- What an offset looks out on, record by record.
use mathlib.Core.Path.{◌≡◌, refl, sym, ◌∙◌}
use mathlib.Core.List.{List, [], ◌∷◌}
use mathlib.Core.Bool.{Bool, true, false, not, true≢false}
use Prim.Native.Nat.{ℕ, ◌+◌, ◌-◌, ◌≤◌, ◌<◌}
use lib.ListN.{length}
use lib.Dec.{ltb, eqb}
use borrow.Author.Tests.{ne_eqb, ltb-true, ltb-false, eqb-true, eqb-false, not-true}
use Rattle.layout.specs.Kinds as kind
use Rattle.layout.specs.Records.{size_at, kind_at, rec_at}
use Rattle.layout.proofs.Walk.{rest-cons, rest_end}
use Rattle.layout.specs.Tests.{◌and◌}
use Rattle.layout.proofs.Bools.{and_both}
use Rattle.program.specs.Program.{level_of, line_of, nowhere, put, put_by, view_by}
use Rattle.program.specs.Places.{view_at, past, version_at, block_at, is_line}

pub view-end : (s : List ℕ) (p : ℕ) → length s ≤ p → view_at s p ≡ nowhere
unfolding view_by
view-end s p h = simp (rest_end s p h)

pub view-broken : (s : List ℕ) (p : ℕ) → p < length s → size_at s p ≡ 0 → view_at s p ≡ nowhere
unfolding view_by
view-broken s p h z = simp (rest-cons s p h, z)

-- from an offset outside of the image, and from a record that is not whole, nothing is seen
pub view-past : (s : List ℕ) (p : ℕ) → size_at s p ≡ 0 → view_at s p ≡ nowhere
view-past s p z = go (ltb p (length s)) refl
  where
    go : (b : Bool) → ltb p (length s) ≡ b → view_at s p ≡ nowhere
    go true e = view-broken s p (ltb-true p (length s) e) z
    go false e = view-end s p (ltb-false p (length s) e)

pub view-at : (s : List ℕ) (p : ℕ) → p < length s → (size_at s p ≡ 0 → ⊥) → view_at s p ≡ put (rec_at s p) (view_at s (past s p))
unfolding view_by
view-at s p h z = simp (rest-cons s p h, ne_eqb (size_at s p) 0 z)

-- A pass has met a whole record of length n and kind k.
pub record Whole (s : List ℕ) (p n k : ℕ) : Type 0 where
  pub inside : p < length s
  pub size : n ≡ size_at s p
  pub whole : n ≡ 0 → ⊥
  pub kind : k ≡ kind_at s p

module _ {s : List ℕ} {p n k : ℕ} (m : Whole s p n k) where
  seen : view_at s p ≡ put (rec_at s p) (view_at s (past s p))
  seen = view-at s p m.inside (λ (y : size_at s p ≡ 0). m.whole (m.size ∙ y))

  -- a VERSION, a BLOCK and an instruction
  pub at-version : k ≡ kind.VERSION → view_at s p ≡ record { level = 0; code = []; blocks = []; versions = version_at s p ∷ (view_at s (p + n)).versions }
  unfolding put_by version_at
  at-version e = rw m.size (seen ∙ simp (sym m.kind ∙ e))

  pub at_block : k ≡ kind.BLOCK → view_at s p ≡ record { level = 0; code = []; blocks = block_at s p ∷ (view_at s (p + n)).blocks; versions = (view_at s (p + n)).versions }
  unfolding put_by block_at
  at_block e = rw m.size (seen ∙ simp (sym m.kind ∙ e))

  pub at-line : (k ≡ kind.VERSION → ⊥) → (k ≡ kind.BLOCK → ⊥) → view_at s p ≡ record { level = level_of (rec_at s p); code = line_of (rec_at s p) ∷ (view_at s (p + n)).code; blocks = (view_at s (p + n)).blocks; versions = (view_at s (p + n)).versions }
  unfolding put_by
  at-line v b = rw m.size (seen ∙ simp (ne_eqb (kind_at s p) kind.VERSION (λ (y : kind_at s p ≡ kind.VERSION). v (m.kind ∙ y)), ne_eqb (kind_at s p) kind.BLOCK (λ (y : kind_at s p ≡ kind.BLOCK). b (m.kind ∙ y))))

-- ---- an instruction at an offset

-- an instruction's record: inside, whole, and neither a VERSION nor a BLOCK
pub record Lined (s : List ℕ) (p : ℕ) : Type 0 where
  pub inside : p < length s
  pub whole : size_at s p ≡ 0 → ⊥
  pub no_version : kind_at s p ≡ kind.VERSION → ⊥
  pub no_block : kind_at s p ≡ kind.BLOCK → ⊥

pub is-lined : (s : List ℕ) (p : ℕ) → is_line s p ≡ true → Lined s p
unfolding is_line
is-lined s p e =
    let a = and_both _ _ e in
    let b = and_both _ _ a.1 in
    let c = and_both _ _ b.1 in
    record {
      inside = ltb-true _ _ a.0;
      whole = eqb-false _ _ (not-true _ b.0);
      no_version = eqb-false _ _ (not-true _ c.0);
      no_block = eqb-false _ _ (not-true _ c.1);
    }

pub line_view : (s : List ℕ) (p : ℕ) → is_line s p ≡ true → (view_at s p).code ≡ line_of (rec_at s p) ∷ (view_at s (past s p)).code
line_view s p e =
    let l = is-lined s p e in
    rw (at-line (record { inside = l.inside; size = refl; whole = l.whole; kind = refl }) l.no_version l.no_block)

pub line-none : (s : List ℕ) (p : ℕ) → is_line s p ≡ false → (view_at s p).code ≡ []
unfolding is_line ◌and◌
line-none s p = go (ltb p (length s)) (eqb (size_at s p) 0) (eqb (kind_at s p) kind.VERSION) (eqb (kind_at s p) kind.BLOCK) refl refl refl refl
  where
    go : (a b c d : Bool) → ltb p (length s) ≡ a → eqb (size_at s p) 0 ≡ b → eqb (kind_at s p) kind.VERSION ≡ c → eqb (kind_at s p) kind.BLOCK ≡ d → (a and not b and not c and not d) ≡ false → (view_at s p).code ≡ []
    go false b c d ea eb ec ed e = rw (view-end s p (ltb-false _ _ ea))
    go true true c d ea eb ec ed e = rw (view-past s p (eqb-true _ _ eb))
    go true false true d ea eb ec ed e = rw (at-version (record { inside = ltb-true _ _ ea; size = refl; whole = eqb-false _ _ eb; kind = refl }) (eqb-true _ _ ec))
    go true false false true ea eb ec ed e = rw (at_block (record { inside = ltb-true _ _ ea; size = refl; whole = eqb-false _ _ eb; kind = refl }) (eqb-true _ _ ed))
    go true false false false ea eb ec ed e = absurd (true≢false e)
