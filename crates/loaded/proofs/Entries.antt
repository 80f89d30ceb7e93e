-- What the loops that fill a table meet.
use mathlib.Core.Path.{◌≡◌, refl, sym, ap, ◌∙◌}
use mathlib.Core.List.{List}
use mathlib.Core.Bool.{Bool, true, false, cond}
use Prim.Native.Nat.{ℕ, ◌+◌, ◌*◌, ◌≤◌, ◌<◌}
use native.Mathlib.Omega.{arith}
use lib.ListN.{length, length-set, set}
use lib.Seq.{get_or-set_same, get_or-set_other}
use lib.Dec.{eqb, ltb}
use borrow.Author.Tests.{ne_eqb, eqb-true, eqb-false, ltb-true, ltb-false}
use Rattle.layout.specs.Kinds as kind
use Rattle.layout.specs.Records.{◌!◌, size_at, kind_at, body_at, rec_at, rest, records}
use Rattle.layout.proofs.Walk.{byte-outside, rest-cons, rest_end}
use Rattle.program.specs.Places.{past}
use Rattle.loaded.specs.Loaded.{BLOCK-ENTRIES}
use Rattle.loaded.specs.Filling.{beginning, entered, filled, moved_on, pointed, recorded}
use Rattle.loaded.specs.declared.Cursor.{Cursor}
use Rattle.loaded.proofs.Stores.{length-pointed, length-recorded}

-- ---- numbers taken off

pub cleared : (t : List ℕ) (k : ℕ) → ((j : ℕ) → j < k → t ! j ≡ 0) → (j : ℕ) → j < k + 1 → set t k 0 ! j ≡ 0
cleared t k h j l = go (eqb j k) refl (ltb k (length t)) refl
  where
    go : (a : Bool) → eqb j k ≡ a → (b : Bool) → ltb k (length t) ≡ b → set t k 0 ! j ≡ 0
    go true x true y = rw (eqb-true j k x) (get_or-set_same t k 0 0 (ltb-true k (length t) y))
    go true x false y = let z = eqb-true j k x in let m = ltb-false k (length t) y in let n = length-set t k 0 in byte-outside (set t k 0) j (omega arith)
    go false x b y = let z : j ≡ k → ⊥ = eqb-false j k x in get_or-set_other t k j 0 0 z ∙ h j (omega arith)

-- ---- a record entered, by its kind

module _ (s : List ℕ) (p : ℕ) (c : Cursor) (t : List ℕ) {k : ℕ} (known : k ≡ kind_at s p) where
  pub enter-version : {f w : ℕ} {t' : List ℕ} → k ≡ kind.VERSION → f ≡ body_at s p ! 0 → w ≡ body_at s p ! 1 → t' ≡ pointed t (4 * f + w) (p + 2)
      → (◌≡◌ {A = Cursor} (record { block = BLOCK-ENTRIES + 8 * (4 * f + w); next = c.next }) (moved_on (rec_at s p) c)) × (t' ≡ entered s (rec_at s p) c t)
  unfolding moved_on entered
  enter-version e x y h = (simp (sym known ∙ e, x, y), h ∙ simp (sym known ∙ e, x, y))

  pub enter-block : {t' t'' : List ℕ} → k ≡ kind.BLOCK → t' ≡ pointed t c.block c.next → t'' ≡ recorded s t' c.next (p + 2)
      → (◌≡◌ {A = Cursor} (record { block = c.block + 1; next = c.next + 1 }) (moved_on (rec_at s p) c)) × (t'' ≡ entered s (rec_at s p) c t)
  unfolding moved_on entered
  enter-block e x y = (simp (sym known ∙ e), y ∙ simp (sym known ∙ e, x))

  pub enter-level : k ≡ kind.LEVEL → (c ≡ moved_on (rec_at s p) c) × (t ≡ entered s (rec_at s p) c t)
  unfolding moved_on entered
  enter-level e = (simp (sym known ∙ e), simp (sym known ∙ e))

  pub enter-line : {t' : List ℕ} → (k ≡ kind.VERSION → ⊥) → (k ≡ kind.BLOCK → ⊥) → (k ≡ kind.LEVEL → ⊥) → t' ≡ recorded s t c.next (p + 2)
      → (◌≡◌ {A = Cursor} (record { block = c.block; next = c.next + 1 }) (moved_on (rec_at s p) c)) × (t' ≡ entered s (rec_at s p) c t)
  unfolding moved_on entered
  enter-line v b l h =
      let ev : eqb (kind_at s p) kind.VERSION ≡ false = ne_eqb _ _ (λ z. v (known ∙ z)) in
      let eb : eqb (kind_at s p) kind.BLOCK ≡ false = ne_eqb _ _ (λ z. b (known ∙ z)) in
      let el : eqb (kind_at s p) kind.LEVEL ≡ false = ne_eqb _ _ (λ z. l (known ∙ z)) in
      (simp (ev, eb, el), h ∙ simp (ev, eb, el))

length-entered : (s : List ℕ) (p : ℕ) (c : Cursor) (t : List ℕ) → length (entered s (rec_at s p) c t) ≡ length t
unfolding entered
length-entered s p c t = go (eqb (kind_at s p) kind.VERSION) (eqb (kind_at s p) kind.BLOCK) (eqb (kind_at s p) kind.LEVEL)
  where
    go : (x y z : Bool) → length (cond x (pointed t (4 * body_at s p ! 0 + body_at s p ! 1) (p + 2))
        (cond y (recorded s (pointed t c.block c.next) c.next (p + 2)) (cond z t (recorded s t c.next (p + 2))))) ≡ length t
    go true y z = length-pointed t _ _
    go false true z = length-recorded s (pointed t c.block c.next) _ _ ∙ length-pointed t _ _
    go false false true = refl
    go false false false = length-recorded s t _ _

-- ---- the loop along the records

-- it has come to p: what is left makes the table of all
pub record Filling (s t₀ t : List ℕ) (c : Cursor) (p : ℕ) : Type 0 where
  pub inside : p ≤ length s
  pub places : c.next ≤ p
  pub blocks : c.block ≤ BLOCK-ENTRIES + 10400 * p
  pub long : length t ≡ length t₀
  pub left : filled s (rest s p) c t ≡ filled s (records s) beginning t₀

pub filled_at : (s : List ℕ) (p : ℕ) (c : Cursor) (t : List ℕ) → p < length s → (size_at s p ≡ 0 → ⊥) → filled s (rest s p) c t ≡ filled s (rest s (past s p)) (moved_on (rec_at s p) c)
    (entered s (rec_at s p) c t)
unfolding filled
filled_at s p c t l z = rw (rest-cons s p l, ne_eqb (size_at s p) 0 z) refl

pub filled-broken : (s : List ℕ) (p : ℕ) (c : Cursor) (t : List ℕ) → p < length s → size_at s p ≡ 0 → filled s (rest s p) c t ≡ t
unfolding filled
filled-broken s p c t l z = rw (rest-cons s p l, z) refl

pub filled-end : (s : List ℕ) (p : ℕ) (c : Cursor) (t : List ℕ) → length s ≤ p → filled s (rest s p) c t ≡ t
unfolding filled
filled-end s p c t l = rw (rest_end s p l) refl

pub fill_on : (s t₀ t t' : List ℕ) (c c' : Cursor) (p n : ℕ) → Filling s t₀ t c p → p < length s → n ≡ size_at s p → (n ≡ 0 → ⊥) → p + n ≤ length s
    → c' ≡ moved_on (rec_at s p) c → t' ≡ entered s (rec_at s p) c t → c'.next ≤ c.next + 1 → c'.block ≤ c.block + 10400 → Filling s t₀ t' c' (p + n)
fill_on s t₀ t t' c c' p n F l e z r x y a b =
    let pl = F.places in
    let bl = F.blocks in
    record {
      inside = r;
      places = omega arith;
      blocks = omega arith;
      long = ap length y ∙ length-entered s p c t ∙ F.long;
      left = rw (e, x, y) (sym (filled_at s p c t l (λ g. z (e ∙ g))) ∙ F.left);
    }
