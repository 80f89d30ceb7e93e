-- What a question that found nothing to refuse gives: its test as a fact, for every version, block and instruction that is looked up.
use Rattle.std.specs.Prelude.{None, Some}
use mathlib.Core.Path.{◌≡◌, refl, ap, ◌∙◌, subst}
use Rattle.layout.specs.Found.{Found}
use mathlib.Core.List.{List, [], ◌∷◌}
use mathlib.Core.Option.{none, some}
use mathlib.Core.Bool.{Bool, true, false, cond}
use Prim.Native.Nat.{ℕ, zero, suc, ◌+◌}
use native.Mathlib.Nat.{add-zero, zero-add}
use native.Mathlib.Omega.{arith}
use lib.ListN.{get_elem?}
use lib.Dec.{eqb}
use borrow.Author.Tests.{eqb-true}
use Rattle.layout.proofs.Bools.{and_both}
use Rattle.layout.specs.Tests.{◌and◌}
use Rattle.program.specs.Program.{Line, Block, Version, Program, find_version}
use Rattle.program.specs.Search.{Question, first_line, first_block, first}
pub use Rattle.program.specs.Held.{Held}
use Rattle.program.proofs.Laid.{passed}

-- what holds of the first and of the others, holds at every place
each : {A : Type 0} (T : ℕ → A → Type 0) (x : A) (l : List A) → T 0 x → ((i : ℕ) (a : A) → get_elem? l i ≡ some a → T (suc i) a) → (i : ℕ) (a : A) → get_elem? (x ∷ l) i ≡ some a → T i a
each T x l t h zero a e = let y : x ≡ a = cc in subst (T 0) y t
each T x l t h (suc i) a e = h i a e

nowhere : {A : Type 0} (T : ℕ → A → Type 0) (i : ℕ) (a : A) → none ≡ some a → T i a
nowhere T i a e = let z : ◌≡◌ {A = ℕ} 0 1 = cc in absurd (omega arith)

module _ (q : Question) (v : Version) where
  -- the instructions of the block n
  abbrev Code : ℕ → List Line → Type 0
  Code n ls = (i : ℕ) (l : Line) → get_elem? ls i ≡ some l → q.of_instr v n l.does ≡ true

  lines : (n : ℕ) (ls : List Line) (k : Found) → first_line q v n ls k ≡ None → Code n ls × (k ≡ None)
  unfolding first_line
  lines n [] k e = (nowhere (λ i l. q.of_instr v n l.does ≡ true), e)
  lines n (x ∷ ls) k e =
      let p = passed (q.of_instr v n x.does) (first_line q v n ls k) x.at e in
      let ih = lines n ls k p.1 in
      (each (λ i l. q.of_instr v n l.does ≡ true) x ls p.0 ih.0, ih.1)

  -- the block n and its instructions
  abbrev Whole : ℕ → Block → Type 0
  Whole n b = (q.of_block v n b ≡ true) × Code n b.code

  blocks : (n : ℕ) (bs : List Block) (k : Found) → first_block q v n bs k ≡ None → ((i : ℕ) (b : Block) → get_elem? bs i ≡ some b → Whole (n + i) b) × (k ≡ None)
  unfolding first_block
  blocks n [] k e = (nowhere (λ i b. Whole (n + i) b), e)
  blocks n (x ∷ bs) k e =
      let p = passed (q.of_block v n x) (first_line q v n x.code (first_block q v (n + 1) bs k)) x.at e in
      let c = lines n x.code (first_block q v (n + 1) bs k) p.1 in
      let ih = blocks (n + 1) bs k c.1 in
      (each (λ i b. Whole (n + i) b) x bs (rw add-zero (p.0, c.0)) (λ i b h. let m : n + suc i ≡ n + 1 + i = omega arith in rw m (ih.0 i b h)), ih.1)

  held : (more : Found) → cond (q.of_version v) (first_block q v 0 v.blocks more) (Some v.at) ≡ None → Held q v × (more ≡ None)
  held more e =
      let p = passed (q.of_version v) (first_block q v 0 v.blocks more) v.at e in
      let b = blocks 0 v.blocks more p.1 in
      (record { of_version = p.0; of_block = λ n x h. (rw zero-add at (b.0 n x h)).0; of_instr = λ n x i l h g. (rw zero-add at (b.0 n x h)).1 i l g }, b.1)

  -- and back
  lines-back : (n : ℕ) (ls : List Line) (k : Found) → Code n ls → first_line q v n ls k ≡ k
  unfolding first_line
  lines-back n [] k c = refl
  lines-back n (x ∷ ls) k c = rw (c 0 x refl) (lines-back n ls k (λ i. c (suc i)))

  blocks-back : (n : ℕ) (bs : List Block) (k : Found) → ((i : ℕ) (b : Block) → get_elem? bs i ≡ some b → Whole (n + i) b) → first_block q v n bs k ≡ k
  unfolding first_block
  blocks-back n [] k c = refl
  blocks-back n (x ∷ bs) k c =
      let w = rw add-zero at (c 0 x refl) in
      rw w.0 (lines-back n x.code _ w.1 ∙ blocks-back (n + 1) bs k (λ i b h. let m : n + 1 + i ≡ n + suc i = omega arith in rw m (c (suc i) b h)))

-- what a question found of every version of a list
unfoldable pub Helds : Question → Program → Type 0
Helds q [] = Unit {0}
Helds q (v ∷ vs) = Held q v × Helds q vs

pub helds : (q : Question) (P : Program) → first q P ≡ None → Helds q P
unfolding first Helds
helds q [] e = tt
helds q (v ∷ vs) e = let h = held q v (first q vs) e in (h.0, helds q vs h.1)

pub helds-back : (q : Question) (P : Program) → Helds q P → first q P ≡ None
unfolding first Helds
helds-back q [] h = refl
helds-back q (v ∷ vs) h = rw h.0.of_version (blocks-back q v 0 v.blocks _ (λ i b e. rw zero-add (h.0.of_block i b e, λ j l g. h.0.of_instr i b j l e g)) ∙ helds-back q vs h.1)

-- a question that found nothing to refuse holds of every version
pub holds : (q : Question) (P : Program) → first q P ≡ None → (f w : ℕ) (v : Version) → find_version P f w ≡ some v → Held q v
unfolding first find_version
holds q [] e f w v h = let z : ◌≡◌ {A = ℕ} 0 1 = cc in absurd (omega arith)
holds q (x ∷ P) e f w v h =
    let p = held q x (first q P) e in go (eqb x.function f and eqb x.version w) p.0 (λ g. holds q P p.1 f w v g) h
  where
    go : (t : Bool) → Held q x → (find_version P f w ≡ some v → Held q v) → cond t (some x) (find_version P f w) ≡ some v → Held q v
    go true a ih g = let y : x ≡ v = cc in subst (Held q) y a
    go false a ih g = ih g

-- ---- a version that is found

-- it has the numbers that it was looked up by
pub find-numbers : (P : Program) (f w : ℕ) (W : Version) → find_version P f w ≡ some W → (W.function ≡ f) × (W.version ≡ w)
unfolding find_version
find-numbers [] f w W h = let z : ◌≡◌ {A = ℕ} 0 1 = cc in absurd (omega arith)
find-numbers (x ∷ P) f w W h = go (eqb x.function f and eqb x.version w) refl h (λ g. find-numbers P f w W g)
  where
    go : (b : Bool) → (eqb x.function f and eqb x.version w) ≡ b → cond b (some x) (find_version P f w) ≡ some W → (find_version P f w ≡ some W → (W.function ≡ f) × (W.version ≡ w)) → (W.function ≡ f) × (W.version ≡ w)
    go true e g ih =
        let y : x ≡ W = cc in
        let t = and_both (eqb x.function f) (eqb x.version w) e in
        (rw y at (eqb-true x.function f t.0), rw y at (eqb-true x.version w t.1))
    go false e g ih = ih g

-- so it is found by its own
pub find-own : (P : Program) (f w : ℕ) (W : Version) → find_version P f w ≡ some W → find_version P W.function W.version ≡ some W
find-own P f w W h = let n = find-numbers P f w W h in ap (λ (k : ℕ). find_version P k W.version) n.0 ∙ ap (λ (k : ℕ). find_version P f k) n.1 ∙ h
