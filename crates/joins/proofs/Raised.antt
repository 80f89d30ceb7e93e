-- Records with their functions raised, and behind others: the program that they make.
use Rattle.std.specs.Prelude.{None}
use mathlib.Core.Path.{◌≡◌, refl, sym, ap, ap₂, ◌∙◌, subst}
use mathlib.Core.Logic.{◌≢◌}
use mathlib.Core.List.{List, [], ◌∷◌, ◌++◌, map}
use mathlib.Core.Bool.{Bool, true, false, cond, true≢false}
use Prim.Native.Nat.{ℕ, zero, suc, ◌+◌, ◌*◌, ◌<◌}
use native.Mathlib.Omega.{arith}
use lib.ListN.{length, length-set}
use lib.Seq.{get_or-set_same, get_or-set_other}
use lib.Dec.{eqb}
use borrow.Author.Tests.{ltb-true, eqb-true, eqb-false, ne_eqb}
use Rattle.layout.specs.Kinds as kind
use Rattle.layout.specs.Records.{Rec, ◌!◌, every, choose}
use Rattle.layout.specs.Forms.{literal_kind, literal_length}
use Rattle.layout.specs.Scan.{scan}
use Rattle.layout.specs.Questions.{length_of, plain_length, in_order, start, version_next, level_next, block_next, line_next, question3, question4}
use Rattle.layout.specs.declared.Form.{Form}
use Rattle.layout.proofs.Bools.{and_both}
use Rattle.layout.proofs.Rows.{Rows, choose-each}
use Rattle.program.specs.Program.{Instr, Line, Block, Version, Program, View, arguments, instr_of, instr_by, line_of, level_of, block_of, version_of, put, put_by, view, view_by, program}
use Rattle.program.proofs.Laid.{passed}
use Rattle.program.proofs.Programs.{put-version, put-block, put-line}
use Rattle.joins.specs.Shifted.{shift_instr, shift_line, shift_block, shift_version}
use Rattle.joins.specs.Joins.{raise, raised}
use Rattle.layout.proofs.Behind.{Chain}

-- a record raised, and at its new offset
abbrev pub shift_rec : ℕ → ℕ → Rec → Rec
shift_rec k o r = record { at = o + r.at; size = r.size; kind = r.kind; body = raised k r.kind r.body }

-- ---- by kinds

-- a body with its function raised, in its four cases
pub by_kind : (k : ℕ) (T : ℕ → List ℕ → Type 0) (n : ℕ) (b : List ℕ) → (n ≡ kind.VERSION → T kind.VERSION (raise k 0 b)) → (n ≡ kind.CALL → T kind.CALL (raise k 1 b)) → (n ≡ kind.DISPATCH → T kind.DISPATCH (raise k 1 b))
    → (eqb n kind.VERSION ≡ false → eqb n kind.CALL ≡ false → eqb n kind.DISPATCH ≡ false → T n b) → T n (raised k n b)
unfolding raised choose
by_kind k T n b v c d o = go (eqb n kind.VERSION) (eqb n kind.CALL) (eqb n kind.DISPATCH) refl refl refl
  where
    go : (x y z : Bool) → eqb n kind.VERSION ≡ x → eqb n kind.CALL ≡ y → eqb n kind.DISPATCH ≡ z → T n (cond x (raise k 0 b) (cond y (raise k 1 b) (cond z (raise k 1 b) b)))
    go true y z ex ey ez = let e = eqb-true n kind.VERSION ex in subst (λ (m : ℕ). T m (raise k 0 b)) (sym e) (v e)
    go false true z ex ey ez = let e = eqb-true n kind.CALL ey in subst (λ (m : ℕ). T m (raise k 1 b)) (sym e) (c e)
    go false false true ex ey ez = let e = eqb-true n kind.DISPATCH ez in subst (λ (m : ℕ). T m (raise k 1 b)) (sym e) (d e)
    go false false false ex ey ez = o ex ey ez

-- the fields that stay
pub raise-other : (k i j : ℕ) (b : List ℕ) → j ≢ i → raise k i b ! j ≡ b ! j
raise-other k i j b h = get_or-set_other b i j (k + b ! i) 0 h

every-raised : (k i : ℕ) (b : List ℕ) (j step n : ℕ) → i < j → every (raise k i b) j step n ≡ every b j step n
unfolding every
every-raised k i b j step zero h = refl
every-raised k i b j step (suc n) h = rw (raise-other k i j b (λ e. absurd (omega (arith, h, e))), every-raised k i b (j + step) step n (omega arith)) refl

arguments-raised : (k i : ℕ) (b : List ℕ) (j n : ℕ) → i < j → arguments (raise k i b) j n ≡ arguments b j n
unfolding arguments
arguments-raised k i b j zero h = refl
arguments-raised k i b j (suc n) h = rw (raise-other k i j b (λ e. absurd (omega (arith, h, e))), raise-other k i (j + 1) b (λ e. absurd (omega (arith, h, e))), arguments-raised k i b (j + 2) n (omega arith)) refl

pub length-raised : (k n : ℕ) (b : List ℕ) → length (raised k n b) ≡ length b
length-raised k n b = by_kind k (λ m c. length c ≡ length b) n b (λ e. length-set b 0 _) (λ e. length-set b 1 _) (λ e. length-set b 1 _) (λ x y z. refl)

-- 3: the length that its fields make
pub length_of-raised : (k n : ℕ) (b : List ℕ) → length_of Form.Wide n (raised k n b) ≡ length_of Form.Wide n b
unfolding length_of plain_length literal_kind literal_length choose
length_of-raised k n b = by_kind k (λ m c. length_of Form.Wide m c ≡ length_of Form.Wide m b) n b (λ e. ap (λ (x : ℕ). 10 + x) (raise-other k 0 3 b (λ e. absurd (omega (arith, e))))) (λ e. ap (λ (x : ℕ). 8 + x) (raise-other k 1 3 b (λ e. absurd (omega (arith, e))))) (λ e. ap (λ (x : ℕ). 9 + 2 * x) (raise-other k 1 4 b (λ e. absurd (omega (arith, e))))) (λ x y z. refl)

-- ---- instructions

-- an instruction that names no function
shifts-not : (k n : ℕ) (b : List ℕ) → eqb n kind.CALL ≡ false → eqb n kind.DISPATCH ≡ false → shift_instr k (instr_of n b) ≡ instr_of n b
unfolding shift_instr instr_by Rows
shifts-not k n b x y = choose-each (λ (i : Instr). shift_instr k i ≡ i) n _ _ refl
    (λ e. refl, (λ e. refl, (λ e. refl, (λ e. refl, (λ e. refl, (λ e. refl, (λ e. refl, (λ e. refl, (λ e. refl, (λ e. refl, (λ e. refl, (λ e. refl, (λ e. refl, (λ e. refl, (λ e. refl, (λ e. refl, (λ e. absurd (eqb-false n kind.CALL x e), (λ e. absurd (eqb-false n kind.DISPATCH y e), (λ e. refl, tt)))))))))))))))))))

instr-raised : (k n : ℕ) (b : List ℕ) → eqb n kind.VERSION ≡ false → (n ≡ kind.CALL → 1 < length b) → (n ≡ kind.DISPATCH → 1 < length b) → instr_of n (raised k n b) ≡ shift_instr k (instr_of n b)
unfolding instr_by choose shift_instr
instr-raised k n b h c d = by_kind k (λ m t. instr_of m t ≡ shift_instr k (instr_of m b)) n b (λ e. absurd (eqb-false n kind.VERSION h e))
    (λ e. rw (raise-other k 1 0 b (λ e. absurd (omega (arith, e))), get_or-set_same b 1 (k + b ! 1) 0 (c e), raise-other k 1 2 b (λ e. absurd (omega (arith, e))), raise-other k 1 3 b (λ e. absurd (omega (arith, e))), every-raised k 1 b 4 1 (b ! 3) (omega arith)) refl)
    (λ e. rw (raise-other k 1 0 b (λ e. absurd (omega (arith, e))), get_or-set_same b 1 (k + b ! 1) 0 (d e), raise-other k 1 2 b (λ e. absurd (omega (arith, e))), raise-other k 1 3 b (λ e. absurd (omega (arith, e))), raise-other k 1 4 b (λ e. absurd (omega (arith, e))), arguments-raised k 1 b 5 (b ! 4) (omega arith)) refl)
    (λ x y z. sym (shifts-not k n b y z))

-- ---- the program

-- a whole record with the fields that are raised
pub record Fit (r : Rec) : Type 0 where
  pub size : 0 < r.size
  pub version : r.kind ≡ kind.VERSION → 0 < length r.body
  pub call : r.kind ≡ kind.CALL → 1 < length r.body
  pub dispatch : r.kind ≡ kind.DISPATCH → 1 < length r.body

unfoldable pub Fits : List Rec → Type 0
Fits [] = Unit {0}
Fits (r ∷ rs) = Fit r × Fits rs

fit-one : (r : Rec) → r.size ≡ 4 + length r.body → r.size ≡ length_of Form.Wide r.kind r.body → Fit r
unfolding length_of plain_length literal_kind literal_length choose
fit-one r e f = record {
  size = omega (arith, e);
  version = λ k. let g : r.size ≡ 10 + r.body ! 3 = f ∙ rw k refl in omega (arith, e, g);
  call = λ k. let g : r.size ≡ 8 + r.body ! 3 = f ∙ rw k refl in omega (arith, e, g);
  dispatch = λ k. let g : r.size ≡ 9 + 2 * r.body ! 4 = f ∙ rw k refl in omega (arith, e, g);
}

pub fits-from : (rs : List Rec) (p e : ℕ) → Chain p rs e → question3 Form.Wide rs ≡ None → Fits rs
unfolding question3 scan Chain Fits
fits-from [] p e c q = tt
fits-from (r ∷ rs) p e c q =
    let t = passed _ _ r.at q in
    let u = and_both _ _ t.0 in
    (fit-one r c.1 (eqb-true _ _ u.1), fits-from rs _ e c.2 t.1)

module _ (k o : ℕ) where
  unfoldable pub shift_view : View → View
  shift_view w = record { level = w.level; code = map (shift_line k o) w.code; blocks = map (shift_block k o) w.blocks; versions = map (shift_version k o) w.versions }

  version-raised : (r : Rec) (g : ℕ) (bs : List Block) → r.kind ≡ kind.VERSION → 0 < length r.body → version_of (shift_rec k o r) g (map (shift_block k o) bs) ≡ shift_version k o (version_of r g bs)
  unfolding raised choose
  version-raised r g bs e h =
      let b = r.body in
      let x : raised k r.kind b ≡ raise k 0 b = rw e refl in
      ap (λ (c : List ℕ). version_of (record { at = o + r.at; size = r.size; kind = r.kind; body = c }) g (map (shift_block k o) bs)) x
      ∙ rw (get_or-set_same b 0 (k + b ! 0) 0 h, raise-other k 0 1 b (λ e. absurd (omega (arith, e))), raise-other k 0 2 b (λ e. absurd (omega (arith, e))), raise-other k 0 3 b (λ e. absurd (omega (arith, e))), raise-other k 0 4 b (λ e. absurd (omega (arith, e))), every-raised k 0 b 6 1 (b ! 3) (omega arith)) refl

  block-raised : (r : Rec) (ls : List Line) → r.kind ≡ kind.BLOCK → block_of (shift_rec k o r) (map (shift_line k o) ls) ≡ shift_block k o (block_of r ls)
  unfolding raised choose
  block-raised r ls e = let x : raised k r.kind r.body ≡ r.body = rw e refl in rw x refl

  line-raised : (r : Rec) → Fit r → eqb r.kind kind.VERSION ≡ false → line_of (shift_rec k o r) ≡ shift_line k o (line_of r)
  line-raised r f e = ap (λ (i : Instr). record { at = o + r.at; does = i }) (instr-raised k r.kind r.body e f.call f.dispatch)

  level-raised : (r : Rec) → level_of (shift_rec k o r) ≡ level_of r
  level-raised r = by_kind k (λ m c. cond (eqb m kind.LEVEL) (c ! 0) 0 ≡ cond (eqb m kind.LEVEL) (r.body ! 0) 0) r.kind r.body (λ e. refl) (λ e. refl) (λ e. refl) (λ x y z. refl)

  put-shifted : (r : Rec) (w : View) → Fit r → put (shift_rec k o r) (shift_view w) ≡ shift_view (put r w)
  unfolding shift_view
  put-shifted r w f = go (eqb r.kind kind.VERSION) (eqb r.kind kind.BLOCK) refl refl
    where
      go : (x y : Bool) → eqb r.kind kind.VERSION ≡ x → eqb r.kind kind.BLOCK ≡ y → put (shift_rec k o r) (shift_view w) ≡ shift_view (put r w)
      go true y ex ey =
          let e = eqb-true r.kind kind.VERSION ex in
          put-version (shift_rec k o r) (shift_view w) ex
          ∙ ap (λ (v : Version). record { level = 0; code = []; blocks = []; versions = v ∷ map (shift_version k o) w.versions }) (version-raised r w.level w.blocks e (f.version e))
          ∙ sym (ap shift_view (put-version r w ex))
      go false true ex ey =
          put-block (shift_rec k o r) (shift_view w) ex ey
          ∙ ap (λ (b : Block). record { level = 0; code = []; blocks = b ∷ map (shift_block k o) w.blocks; versions = map (shift_version k o) w.versions }) (block-raised r w.code (eqb-true r.kind kind.BLOCK ey))
          ∙ sym (ap shift_view (put-block r w ex ey))
      go false false ex ey =
          put-line (shift_rec k o r) (shift_view w) ex ey
          ∙ ap₂ (λ (g : ℕ) (l : Line). record { level = g; code = l ∷ map (shift_line k o) w.code; blocks = map (shift_block k o) w.blocks; versions = map (shift_version k o) w.versions }) (level-raised r) (line-raised r f ex)
          ∙ sym (ap shift_view (put-line r w ex ey))

  -- THE LAW of the program of raised records
  pub view-shifted : (rs : List Rec) → Fits rs → view (map (shift_rec k o) rs) ≡ shift_view (view rs)
  unfolding view_by Fits shift_view
  view-shifted [] f = refl
  view-shifted (r ∷ rs) f = rw (ne_eqb r.size 0 (λ z. absurd (omega (arith, z, f.0.size))), view-shifted rs f.1) (put-shifted r (view rs) f.0)

-- ---- the program of records behind others

-- whole records, behind which others begin with a VERSION
abbrev pub join_view : View → Program → View
join_view w vs = record { level = w.level; code = w.code; blocks = w.blocks; versions = w.versions ++ vs }

put-joined : (r : Rec) (w : View) (vs : Program) → put r (join_view w vs) ≡ join_view (put r w) vs
unfolding put_by
put-joined r w vs = go (eqb r.kind kind.VERSION) (eqb r.kind kind.BLOCK) refl refl
  where
    go : (x y : Bool) → eqb r.kind kind.VERSION ≡ x → eqb r.kind kind.BLOCK ≡ y → put r (join_view w vs) ≡ join_view (put r w) vs
    go true y ex ey = put-version r (join_view w vs) ex ∙ sym (ap (λ (u : View). join_view u vs) (put-version r w ex))
    go false true ex ey = put-block r (join_view w vs) ex ey ∙ sym (ap (λ (u : View). join_view u vs) (put-block r w ex ey))
    go false false ex ey = put-line r (join_view w vs) ex ey ∙ sym (ap (λ (u : View). join_view u vs) (put-line r w ex ey))

pub view-behind : (rs qs : List Rec) → Fits rs → (view qs).level ≡ 0 → (view qs).code ≡ [] → (view qs).blocks ≡ [] → view (rs ++ qs) ≡ join_view (view rs) (program qs)
unfolding view_by Fits
view-behind [] qs f g c b = rw (← g, ← c, ← b) refl
view-behind (r ∷ rs) qs f g c b = let e = ne_eqb r.size 0 (λ z. absurd (omega (arith, z, f.0.size))) in rw (e, view-behind rs qs f.1 g c b) (put-joined r (view rs) (program qs))

pub program-behind : (rs qs : List Rec) → Fits rs → (view qs).level ≡ 0 → (view qs).code ≡ [] → (view qs).blocks ≡ [] → program (rs ++ qs) ≡ program rs ++ program qs
program-behind rs qs f g c b = ap (λ (w : View). w.versions) (view-behind rs qs f g c b)

-- records in order begin with a VERSION
pub begins : (e : ℕ) (rs : List Rec) → question4 e rs ≡ None → ((view rs).level ≡ 0) × ((view rs).code ≡ []) × ((view rs).blocks ≡ [])
unfolding question4 scan view_by in_order choose
begins e [] q = (refl, refl, refl)
begins e (r ∷ rs) q =
    let t = passed _ _ r.at q in
    let u = and_both _ _ t.0 in
    let w = and_both _ _ u.1 in
    go (eqb r.kind kind.VERSION) (eqb r.kind kind.LEVEL) (eqb r.kind kind.BLOCK) refl refl refl w.1 (ltb-true 0 r.size u.0)
  where
    go : (x y z : Bool) → eqb r.kind kind.VERSION ≡ x → eqb r.kind kind.LEVEL ≡ y → eqb r.kind kind.BLOCK ≡ z → cond x (version_next start) (cond y (level_next start) (cond z (block_next start) (line_next start))) ≡ true → 0 < r.size
        → ((view (r ∷ rs)).level ≡ 0) × ((view (r ∷ rs)).code ≡ []) × ((view (r ∷ rs)).blocks ≡ [])
    go true y z ex ey ez o l = rw (ne_eqb r.size 0 (λ z. absurd (omega (arith, z, l))), put-version r (view rs) ex) (refl, refl, refl)
    go false true z ex ey ez o l = absurd (true≢false (sym o))
    go false false true ex ey ez o l = absurd (true≢false (sym (and_both _ _ (and_both _ _ o).1).0))
    go false false false ex ey ez o l = absurd (true≢false (sym o))
