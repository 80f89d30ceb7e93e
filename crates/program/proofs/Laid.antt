-- What question 4 gives of the program: numbers, counts, marks, op and n are in bounds, and as many blocks and instructions stand there as are announced.
use Rattle.std.specs.Prelude.{None, Some}
use mathlib.Core.Path.{◌≡◌, refl, sym, ap, ◌∙◌, subst}
use Rattle.layout.specs.Found.{Found}
use mathlib.Core.List.{List, [], ◌∷◌}
use mathlib.Core.Bool.{Bool, true, false, cond}
use Prim.Native.Nat.{ℕ, suc, ◌+◌, ◌-◌}
use native.Mathlib.Omega.{arith}
use lib.ListN.{length}
use lib.Dec.{ltb, leb, eqb}
use borrow.Author.Tests.{eqb-true, ltb-true, ne_eqb}
use Rattle.layout.specs.Bounds.{FUNCTIONS, VERSIONS, ALL-VERSIONS, LEVELS, REGISTERS, PARAMETERS, BLOCKS, INSTRUCTIONS, OPERANDS, MARKS, OPERATIONS}
use Rattle.layout.specs.Kinds as kind
use Rattle.layout.specs.Tests.{◌and◌}
use Rattle.layout.specs.Records.{Rec, ◌!◌, choose}
use Rattle.layout.specs.Scan.{scan}
use Rattle.layout.specs.Questions.{version_in_bounds, in_bounds, in_order, due_after, none_due, placed, question4}
use Rattle.layout.specs.declared.Due.{Due}
use Rattle.layout.proofs.Bools.{and_both, and-on}
use Rattle.layout.proofs.Fields.{length-every}
use Rattle.layout.proofs.Rows.{Rows, choose-each}
use Rattle.program.specs.Program.{Instr, LIT, MOVE, USE, DUP, VEC, LEN, GET, SET, ARITH, SELECT, CAST, NAMED, STORE, PROM, FORCE, PEEK, POKE, CALL, DISPATCH, SKIP, Line, Block, Version, View, instr_of, instr_by, line_of, block_of, version_of, nowhere, put, put_by, view, view_by, program}
use Rattle.program.specs.Search.{first_line, first_block, first}
unfoldable pub use Rattle.program.specs.Held.{version_bounded, block_bounded, instr_bounded, bounds}
use Rattle.program.proofs.Forms.{length-arguments}

-- a test that a search passed
pub passed : (t : Bool) (more : Found) (p : ℕ) → cond t more (Some p) ≡ None → (t ≡ true) × (more ≡ None)
passed true more p e = (refl, e)
passed false more p e = let z : ◌≡◌ {A = ℕ} 0 1 = cc in absurd (omega arith)

-- what is due stands there; of instructions that is said where no level is due
pub record Laid (d : Due) (w : View) : Type 0 where
  pub level : ltb w.level LEVELS ≡ true
  pub code : d.levels ≡ 0 → length w.code ≡ d.instructions
  pub blocks : length w.blocks ≡ d.blocks
  pub lines : d.levels ≡ 0 → (v : Version) (n : ℕ) (more : Found) → first_line bounds v n w.code more ≡ more
  pub inside : (v : Version) (n : ℕ) (more : Found) → first_block bounds v n w.blocks more ≡ more
  pub versions : first bounds w.versions ≡ None

no_lines : (v : Version) (n : ℕ) (more : Found) → first_line bounds v n [] more ≡ more
unfolding first_line
no_lines v n more = refl

no_blocks : (v : Version) (n : ℕ) (more : Found) → first_block bounds v n [] more ≡ more
unfolding first_block
no_blocks v n more = refl

one_line : (v : Version) (n : ℕ) (l : Line) (ls : List Line) (more : Found) → instr_bounded l.does ≡ true → first_line bounds v n ls more ≡ more → first_line bounds v n (l ∷ ls) more ≡ more
unfolding first_line
one_line v n l ls more h ih = rw h ih

one_block : (v : Version) (n : ℕ) (b : Block) (bs : List Block) (more : Found) → block_bounded b ≡ true → ((m : Found) → first_line bounds v n b.code m ≡ m) → first_block bounds v (n + 1) bs more ≡ more → first_block bounds v n (b ∷ bs) more ≡ more
unfolding first_block
one_block v n b bs more h ls ih = rw h (ls _ ∙ ih)

version-inside : (r : Rec) (g : ℕ) (bs : List Block) → version_in_bounds r.body ≡ true → ltb g LEVELS ≡ true → length bs ≡ r.body ! 5 → version_bounded (version_of r g bs) ≡ true
unfolding version_in_bounds version_bounded
version-inside r g bs h l e = rw (length-every r.body 6 1 (r.body ! 3), e) (and-on _ l ∙ h)

-- the bounds of a record, by its kind
module _ (b : List ℕ) where
  vec-bound : {k : ℕ} → k ≡ kind.VEC → in_bounds k b ≡ true → leb (b ! 1) OPERANDS ≡ true
  unfolding in_bounds choose
  vec-bound e h = simp e at h

  arith-bound : {k : ℕ} → k ≡ kind.ARITH → in_bounds k b ≡ true → ltb (b ! 1) OPERATIONS ≡ true
  unfolding in_bounds choose
  arith-bound e h = simp e at h

  call-bound : {k : ℕ} → k ≡ kind.CALL → in_bounds k b ≡ true → leb (b ! 3) OPERANDS ≡ true
  unfolding in_bounds choose
  call-bound e h = simp e at h

  dispatch-bound : {k : ℕ} → k ≡ kind.DISPATCH → in_bounds k b ≡ true → (ltb (b ! 2) MARKS and leb (b ! 4) OPERANDS) ≡ true
  unfolding in_bounds choose
  dispatch-bound e h = simp e at h

-- an instruction has the bounds of its record
instr-inside : (k : ℕ) (b : List ℕ) → in_bounds k b ≡ true → instr_bounded (instr_of k b) ≡ true
unfolding instr_bounded instr_by Rows
instr-inside k b h = choose-each (λ (i : Instr). instr_bounded i ≡ true) k _ _ refl (
  λ e. refl,
  (
    λ e. refl,
    (
      λ e. refl,
      (λ e. rw (length-every b 2 1 (b ! 1)) (vec-bound b e h), (λ e. refl, (λ e. refl, (λ e. refl, (λ e. arith-bound b e h, (λ e. refl, (λ e. refl, (λ e. refl, (λ e. refl, (λ e. refl, (λ e. refl, (λ e. refl, (λ e. refl, (λ e. rw (length-every b 4 1 (b ! 3)) (call-bound b e h), (λ e. rw (length-arguments b 5 (b ! 4)) (dispatch-bound b e h), (λ e. refl, tt)))))))))))))))),
    ),
  ),
)

module _ (r : Rec) (d : Due) (w : View) (a : Laid (due_after d r) w) (bound : in_bounds r.kind r.body ≡ true) (order : in_order d r.kind ≡ true) where
  at-version : r.kind ≡ kind.VERSION → Laid d (put r w)
  unfolding put_by in_bounds in_order due_after choose first
  at-version e = subst (Laid d) is (record { level = refl; code = λ z. sym (eqb-true _ 0 o.1); blocks = sym (eqb-true _ 0 o.0); lines = λ z. no_lines; inside = no_blocks; versions = rw fits (a.inside _ 0 _ ∙ a.versions) })
    where
      is : ◌≡◌ {A = View} (record { level = 0; code = []; blocks = []; versions = version_of r w.level w.blocks ∷ w.versions }) (put r w)
      is = simp e

      o : (eqb d.blocks 0 ≡ true) × (eqb d.instructions 0 ≡ true)
      o = let h : (ltb d.versions ALL-VERSIONS and eqb d.levels 0 and eqb d.blocks 0 and eqb d.instructions 0) ≡ true = simp e at order in and_both _ _ (and_both _ _ (and_both _ _ h).1).1

      fits : version_bounded (version_of r w.level w.blocks) ≡ true
      fits = version-inside r w.level w.blocks (simp e at bound) a.level (simp e at a.blocks)

  at_block : r.kind ≡ kind.BLOCK → Laid d (put r w)
  unfolding put_by in_bounds in_order due_after choose block_bounded
  at_block e = subst (Laid d) is (record { level = refl; code = λ z. sym (eqb-true _ 0 o.1); blocks = ap suc count ∙ more; lines = λ z. no_lines; inside = λ v n k. one_block v n _ _ k fits (a.lines none v n) (a.inside v (n + 1) k); versions = a.versions })
    where
      is : ◌≡◌ {A = View} (record { level = 0; code = []; blocks = block_of r w.code ∷ w.blocks; versions = w.versions }) (put r w)
      is = simp e

      due : (eqb d.levels 0 ≡ true) × ((ltb 0 d.blocks and eqb d.instructions 0) ≡ true)
      due = let h : (eqb d.levels 0 and ltb 0 d.blocks and eqb d.instructions 0) ≡ true = simp e at order in and_both _ _ h

      o : (ltb 0 d.blocks ≡ true) × (eqb d.instructions 0 ≡ true)
      o = and_both _ _ due.1

      none : (due_after d r).levels ≡ 0
      none = simp (e, eqb-true d.levels 0 due.0)

      count : length w.blocks ≡ d.blocks - 1
      count = simp e at a.blocks

      more : suc (d.blocks - 1) ≡ d.blocks
      more = omega (arith, ltb-true 0 d.blocks o.0)

      announced : length w.code ≡ r.body ! 2
      announced = simp e at (a.code none)

      fits : block_bounded (block_of r w.code) ≡ true
      fits = rw announced (simp e at bound)

  -- a LEVEL: one is due, so nothing is said of instructions
  at_level : r.kind ≡ kind.LEVEL → Laid d (put r w)
  unfolding put_by in_bounds in_order due_after choose
  at_level e = subst (Laid d) is (record { level = simp e at bound; code = λ z. absurd (due z); blocks = simp e at a.blocks; lines = λ z. absurd (due z); inside = a.inside; versions = a.versions })
    where
      is : ◌≡◌ {A = View} (record { level = r.body ! 0; code = line_of r ∷ w.code; blocks = w.blocks; versions = w.versions }) (put r w)
      is = simp e

      due : d.levels ≡ 0 → ⊥
      due z = let h : ltb 0 d.levels ≡ true = simp e at order in absurd (omega (arith, z, ltb-true 0 d.levels h))

  at-line : eqb r.kind kind.VERSION ≡ false → eqb r.kind kind.LEVEL ≡ false → eqb r.kind kind.BLOCK ≡ false → Laid d (put r w)
  unfolding put_by in_order due_after choose
  at-line e1 e3 e2 = subst (Laid d) is (record { level = refl; code = λ z. ap suc (count z) ∙ more; blocks = simp (e1, e2, e3) at a.blocks; lines = λ z v n k. one_line v n _ _ k (instr-inside r.kind r.body bound) (a.lines (left z) v n k); inside = a.inside; versions = a.versions })
    where
      is : ◌≡◌ {A = View} (record { level = 0; code = line_of r ∷ w.code; blocks = w.blocks; versions = w.versions }) (put r w)
      is = simp (e1, e2, e3)

      left : d.levels ≡ 0 → (due_after d r).levels ≡ 0
      left z = simp (e1, e2, e3, z)

      count : d.levels ≡ 0 → length w.code ≡ d.instructions - 1
      count z = simp (e1, e2, e3) at (a.code (left z))

      o : ltb 0 d.instructions ≡ true
      o = simp (e1, e2, e3) at order

      more : suc (d.instructions - 1) ≡ d.instructions
      more = omega (arith, ltb-true 0 d.instructions o)

  at-record : Laid d (put r w)
  at-record = go (eqb r.kind kind.VERSION) (eqb r.kind kind.LEVEL) (eqb r.kind kind.BLOCK) refl refl refl
    where
      go : (x z y : Bool) → eqb r.kind kind.VERSION ≡ x → eqb r.kind kind.LEVEL ≡ z → eqb r.kind kind.BLOCK ≡ y → Laid d (put r w)
      go true z y ex ez ey = at-version (eqb-true r.kind kind.VERSION ex)
      go false true y ex ez ey = at_level (eqb-true r.kind kind.LEVEL ez)
      go false false true ex ez ey = at_block (eqb-true r.kind kind.BLOCK ey)
      go false false false ex ez ey = at-line ex ez ey

laid : (end : ℕ) (rs : List Rec) (d : Due) → scan placed due_after (none_due end) d rs ≡ None → Laid d (view rs)
unfolding scan none_due view_by first
laid end [] d h = let p = and_both _ _ (and_both _ _ (passed _ None end h).0).1 in record { level = refl; code = λ z. sym (eqb-true _ 0 p.1); blocks = sym (eqb-true _ 0 p.0); lines = λ z. no_lines; inside = no_blocks; versions = refl }
laid end (r ∷ rs) d h = let p = passed _ _ r.at h in let t = and_both _ _ p.0 in let q = and_both _ _ t.1 in
    whole (ne_eqb r.size 0 (λ z. absurd (omega (arith, ltb-true 0 r.size t.0)))) (at-record r d (view rs) (laid end rs (due_after d r) p.1) q.0 q.1)
  where
    whole : eqb r.size 0 ≡ false → Laid d (put r (view rs)) → Laid d (cond (eqb r.size 0) nowhere (put r (view rs)))
    whole e x = rw e x

-- an image that question 4 passes has a program within bounds
pub in_bounds_lem : (end : ℕ) (rs : List Rec) → question4 end rs ≡ None → first bounds (program rs) ≡ None
unfolding question4
in_bounds_lem end rs h = (laid end rs _ h).versions
