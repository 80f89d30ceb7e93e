-- Every block of a checked version does something that flow allows: block 0 by question 10, each other one by the PROM that names it, in a block below.
use mathlib.Core.Path.{◌≡◌, refl, sym, ap, ◌∙◌}
use mathlib.Core.Logic.{◌⊎◌, inl, inr}
use mathlib.Core.List.{List, [], ◌∷◌}
use mathlib.Core.Option.{none, some}
use mathlib.Core.Bool.{Bool, true, false, cond, false≢true}
use Prim.Native.Nat.{ℕ, zero, suc, ◌+◌, ◌<◌}
use native.Mathlib.Omega.{arith}
use lib.ListN.{get_elem?}
use lib.Dec.{eqb, ltb}
use borrow.Author.Tests.{eqb-true, ltb-true}
use Rattle.layout.specs.Tests.{count}
use Rattle.layout.proofs.Bools.{and_both}
use Rattle.program.specs.Program.{Instr, LIT, MOVE, USE, DUP, VEC, LEN, GET, SET, ARITH, SELECT, CAST, NAMED, STORE, PROM, FORCE, PEEK, POKE, CALL, DISPATCH, SKIP, Line, Block, Version, Program}
use Rattle.program.specs.Questions.{register_exists, exists, names_block, namings, block_named}
use Rattle.rules.specs.Actions.{Action, action_of}
use Rattle.rules.specs.Walks.{block_action, entered, acts}
use Rattle.rules.proofs.Follows.{or-either}
use Rattle.rules.proofs.Prefixes.{Does, reached, met}
use Rattle.rules.proofs.Touches.{promises-by, flows-body}
use Rattle.rules.proofs.Fitted.{prom-touches}
use Rattle.checker.proofs.Accepted.{Checked}

-- what passes is counted
counted : {A : Type 0} (p : A → Bool) (l : List A) → 0 < count p l → (i : ℕ) × (x : A) × (get_elem? l i ≡ some x) × (p x ≡ true)
unfolding count
counted p [] h = absurd (omega arith)
counted {A} p (y ∷ l) h = go (p y) refl h (counted p l)
  where
    go : (b : Bool) → p y ≡ b → 0 < cond b 1 0 + count p l → (0 < count p l → (i : ℕ) × (x : A) × (get_elem? l i ≡ some x) × (p x ≡ true)) → (i : ℕ) × (x : A) × (get_elem? (y ∷ l) i ≡ some x) × (p x ≡ true)
    go true e g ih = (0, y, refl, e)
    go false e g ih = let t = ih (omega arith) in (suc t.0, t.1, t.2, t.3)

-- a PROM that names the block n stands at the place i of the block m
pub record Naming (n : ℕ) (bs : List Block) : Type 0 where
  pub block : ℕ
  pub place : ℕ
  pub in_block : Block
  pub line : Line
  pub is_block : get_elem? bs block ≡ some in_block
  pub is-line : get_elem? in_block.code place ≡ some line
  pub names : names_block n line.does ≡ true

naming-later : (n : ℕ) (b : Block) (bs : List Block) → Naming n bs → Naming n (b ∷ bs)
naming-later n b bs m = record { block = suc m.block; place = m.place; in_block = m.in_block; line = m.line; is_block = m.is_block; is-line = m.is-line; names = m.names }

naming : (n : ℕ) (bs : List Block) → 0 < namings n bs → Naming n bs
unfolding namings
naming n [] h = absurd (omega arith)
naming n (b ∷ bs) h = go (count (λ (l : Line). names_block n l.does) b.code) refl (naming n bs)
  where
    go : (k : ℕ) → count (λ (l : Line). names_block n l.does) b.code ≡ k → (0 < namings n bs → Naming n bs) → Naming n (b ∷ bs)
    go zero e ih = naming-later n b bs (ih (omega (arith, h, e)))
    go (suc k) e ih =
        let t = counted (λ (l : Line). names_block n l.does) b.code (omega (arith, e)) in
        record { block = 0; place = t.0; in_block = b; line = t.1; is_block = refl; is-line = t.2; names = t.3 }

-- it is a PROM
naming-prom : (n : ℕ) (i : Instr) → names_block n i ≡ true → (d : ℕ) × (i ≡ PROM d n)
unfolding names_block
naming-prom n (LIT d i) e = absurd (false≢true e)
naming-prom n (MOVE d a) e = absurd (false≢true e)
naming-prom n (USE d a) e = absurd (false≢true e)
naming-prom n (DUP d a) e = absurd (false≢true e)
naming-prom n (VEC d rs) e = absurd (false≢true e)
naming-prom n (LEN d a) e = absurd (false≢true e)
naming-prom n (GET d a i) e = absurd (false≢true e)
naming-prom n (SET a i x) e = absurd (false≢true e)
naming-prom n (ARITH d op a b) e = absurd (false≢true e)
naming-prom n (SELECT d c a b) e = absurd (false≢true e)
naming-prom n (CAST d a) e = absurd (false≢true e)
naming-prom n (NAMED d x) e = absurd (false≢true e)
naming-prom n (STORE x a) e = absurd (false≢true e)
naming-prom n (PROM d block) e = let q = eqb-true block n e in (d, rw q refl)
naming-prom n (FORCE d a) e = absurd (false≢true e)
naming-prom n (PEEK d a x) e = absurd (false≢true e)
naming-prom n (POKE a x y) e = absurd (false≢true e)
naming-prom n (CALL d f w rs) e = absurd (false≢true e)
naming-prom n (DISPATCH d f mark ret pairs) e = absurd (false≢true e)
naming-prom n (SKIP a k) e = absurd (false≢true e)

module _ (P : Program) (v : Version) (c : Checked P v) where
  -- the block that a PROM enters does something where the PROM does
  prom-enters : (m n d : ℕ) (a : Action) → acts P v m (PROM d n) ≡ some a → (i : Action) × (block_action P v n ≡ some i)
  prom-enters m n d a e = let p = promises-by (entered P v m) n (d ∷ []) a (sym (ap (action_of (entered P v m)) (prom-touches P d n)) ∙ e) in (p.inner, go (ltb m n) p.is-inner)
    where
      go : (t : Bool) {i : Action} → cond t (block_action P v n) none ≡ some i → block_action P v n ≡ some i
      go true h = h
      go false h = let z : ◌≡◌ {A = ℕ} 0 1 = cc in absurd (omega arith)

  -- it stands in a block below
  prom-below : (n m : ℕ) (x : Block) (i : ℕ) (l : Line) (d : ℕ) → get_elem? v.blocks m ≡ some x → get_elem? x.code i ≡ some l → l.does ≡ PROM d n → m < n
  unfolding exists
  prom-below n m x i l d e f g =
      let h : exists P v m (PROM d n) ≡ true = rw g at (c.exist.of_instr m x i l e f) in
      ltb-true m n (and_both (ltb m n) _ (and_both (register_exists v d) _ h).1).0

  block-does : (n : ℕ) (x : Block) → get_elem? v.blocks n ≡ some x → 0 < n → ((m : ℕ) (y : Block) → m < n → get_elem? v.blocks m ≡ some y → (a : Action) × (block_action P v m ≡ some a)) → (a : Action) × (block_action P v n ≡ some a)
  unfolding block_named
  block-does n x e p ih = go (or-either _ _ (and_both (register_exists v x.result) _ (c.exist.of_block n x e)).1)
    where
      named : eqb (namings n v.blocks) 1 ≡ true → (a : Action) × (block_action P v n ≡ some a)
      named h =
          let k = naming n v.blocks (omega (arith, eqb-true (namings n v.blocks) 1 h)) in
          let q = naming-prom n k.line.does k.names in
          let m = prom-below n k.block k.in_block k.place k.line q.0 k.is_block k.is-line q.1 in
          let a = ih k.block k.in_block m k.is_block in
          let h : Does P v k.block k.in_block a.0 = record { there = k.is_block; does = a.1 } in
          let s = reached h k.place in
          let t = met h k.place k.line s.done k.is-line s.is-done in
          prom-enters k.block n q.0 t.now (sym (ap (acts P v k.block) q.1) ∙ t.is-now)

      go : (eqb n 0 ≡ true) ⊎ (eqb (namings n v.blocks) 1 ≡ true) → (a : Action) × (block_action P v n ≡ some a)
      go (inl h) = absurd (omega (arith, eqb-true n 0 h))
      go (inr h) = named h

  all-below : (k n : ℕ) (x : Block) → n < k → get_elem? v.blocks n ≡ some x → (a : Action) × (block_action P v n ≡ some a)
  all-below zero n x h e = absurd (omega arith)
  all-below (suc k) zero x h e = let f = flows-body P v c.flow.of_version in (f.body, f.is_body)
  all-below (suc k) (suc n) x h e = block-does (suc n) x e (omega arith) (λ m y l g. all-below k m y (omega arith) g)

  -- THE LAW
  pub defined : (n : ℕ) (x : Block) → get_elem? v.blocks n ≡ some x → (a : Action) × (block_action P v n ≡ some a)
  defined n x e = all-below (suc n) n x (omega arith) e
