-- The functions that the records of an accepted image name are its own: raised, they are bytes as long as those are.
use Rattle.std.specs.Prelude.{None}
use mathlib.Core.Path.{◌≡◌, refl, ◌∙◌, subst}
use mathlib.Core.List.{List, [], ◌∷◌}
use mathlib.Core.Option.{some}
use mathlib.Core.Bool.{Bool, true, false}
use Prim.Native.Nat.{ℕ, suc, ◌+◌, ◌≤◌, ◌<◌}
use native.Mathlib.Omega.{arith}
use lib.ListN.{get_elem?}
use lib.Dec.{eqb, ltb}
use borrow.Author.Tests.{eqb-true, eqb-false, ltb-true}
use Rattle.layout.specs.Kinds as kind
use Rattle.layout.specs.Tests.{◌and◌}
use Rattle.layout.specs.Records.{Rec, ◌!◌, choose}
use Rattle.layout.specs.Scan.{scan}
use Rattle.layout.specs.Questions.{after_version, after_level, after_block, after_line, in_order, due_after, none_due, placed, start, question4}
use Rattle.layout.specs.declared.Due.{Due}
use Rattle.layout.proofs.Bools.{and_both}
use Rattle.program.specs.Program.{Line, Block, Program, View, instr_of, instr_by, line_of, block_of, version_of, put, view, program}
use Rattle.program.specs.Questions.{question7}
use Rattle.program.proofs.Held.{Helds}
use Rattle.program.proofs.Programs.{view-whole, put-line, put-block, program-version, program-other}
use Rattle.program.proofs.Laid.{passed}
use Rattle.joins.specs.Alongside.{Names, NamesIn}
use Rattle.joins.specs.Parts.{Raisable, AllRaisable}
use Rattle.joins.proofs.Raised.{Fit, Fits}
use Rattle.joins.proofs.Together.{Below, names_in}

-- versions of functions below m that name such functions alone
unfoldable pub Within : ℕ → Program → Type 0
Within m [] = Unit {0}
Within m (v ∷ vs) = (v.function < m) × NamesIn m v × Within m vs

pub all-within : (m : ℕ) (P : Program) → Below m P → (vs : Program) → Below m vs → Helds (question7 P) vs → Within m vs
unfolding Within Below Helds
all-within m P b [] c h = tt
all-within m P b (v ∷ vs) c h = (c.0, names_in m P b v h.0, all-within m P b vs c.1 h.1)

-- what is due and seen names functions below m
abbrev Lines : ℕ → Due → View → Type 0
Lines m d w = 0 < d.instructions → (i : ℕ) (l : Line) → get_elem? w.code i ≡ some l → Names m l.does

abbrev Blocks : ℕ → Due → View → Type 0
Blocks m d w = 0 < d.blocks → (j : ℕ) (B : Block) (i : ℕ) (l : Line) → get_elem? w.blocks j ≡ some B → get_elem? B.code i ≡ some l → Names m l.does

module _ (k m : ℕ) (low : k + m ≤ 256) where
  other-kind : (n : ℕ) (b : List ℕ) → eqb n kind.VERSION ≡ false → eqb n kind.CALL ≡ false → eqb n kind.DISPATCH ≡ false → Raisable k n b
  other-kind n b x y z = record { version = λ e. absurd (eqb-false n _ x e); call = λ e. absurd (eqb-false n _ y e); dispatch = λ e. absurd (eqb-false n _ z e) }

  a-line : (r : Rec) → Fit r → eqb r.kind kind.VERSION ≡ false → Names m (instr_of r.kind r.body) → Raisable k r.kind r.body
  unfolding Names instr_by choose
  a-line r f x h = record {
    version = λ e. absurd (eqb-false r.kind _ x e);
    call = λ e. (f.call e, let n : r.body ! 1 < m = subst (λ (n : ℕ). Names m (instr_of n r.body)) e h in omega (arith, low, n));
    dispatch = λ e. (f.dispatch e, let n : r.body ! 1 < m = subst (λ (n : ℕ). Names m (instr_of n r.body)) e h in omega (arith, low, n));
  }

  module _ (end : ℕ) where
    -- THE LAW of the records in order whose program names functions below m
    named-records : (rs : List Rec) (d : Due) → Fits rs → scan placed due_after (none_due end) d rs ≡ None → Lines m d (view rs) → Blocks m d (view rs) → Within m (program rs) → AllRaisable k rs
    unfolding scan Fits AllRaisable in_order due_after choose Within
    named-records [] d f q ls bs vs = tt
    named-records (r ∷ rs) d f q ls bs vs =
        let t = passed (ltb 0 r.size and placed d r) _ r.at q in
        let o = (and_both _ _ (and_both _ _ t.0).1).1 in
        go (eqb r.kind kind.VERSION) (eqb r.kind kind.LEVEL) (eqb r.kind kind.BLOCK) refl refl refl o
        (λ d' e ls' bs' vs'. named-records rs d' f.1 (subst (λ (x : Due). scan placed due_after (none_due end) x rs ≡ None) e t.1) ls' bs' vs')
      where
        seen : view (r ∷ rs) ≡ put r (view rs)
        seen = view-whole r rs f.0.size

        go : (x y z : Bool) → eqb r.kind kind.VERSION ≡ x → eqb r.kind kind.LEVEL ≡ y → eqb r.kind kind.BLOCK ≡ z → in_order d r.kind ≡ true
            → ((d' : Due) → due_after d r ≡ d' → Lines m d' (view rs) → Blocks m d' (view rs) → Within m (program rs) → AllRaisable k rs)
            → Raisable k r.kind r.body × AllRaisable k rs
        go true y z ex ey ez o ih = version (subst (Within m) (program-version r rs f.0.size ex) vs)
          where
            version : Within m (version_of r (view rs).level (view rs).blocks ∷ program rs) → Raisable k r.kind r.body × AllRaisable k rs
            version w =
                let e = eqb-true r.kind kind.VERSION ex in (
                  record { version = λ g. (f.0.version g, omega (arith, low, w.0)); call = λ g. absurd (omega (arith, g, e)); dispatch = λ g. absurd (omega (arith, g, e)) },
                  ih (after_version d r.body) (rw ex refl) (λ h. absurd (omega (arith, h))) (λ h. w.1) w.2,
                )
        go false true z ex ey ez o ih =
            let e = eqb-true r.kind kind.LEVEL ey in
            let nb : eqb r.kind kind.BLOCK ≡ false = rw e refl in
            let w = seen ∙ put-line r (view rs) ex nb in (
              record { version = λ g. absurd (omega (arith, g, e)); call = λ g. absurd (omega (arith, g, e)); dispatch = λ g. absurd (omega (arith, g, e)) },
              ih (after_level d) (rw (ex, ey) refl) (λ h i. subst (Lines m d) w ls h (suc i)) (subst (Blocks m d) w bs) (subst (Within m) (program-other r rs f.0.size ex) vs),
            )
        go false false true ex ey ez o ih =
            let e = eqb-true r.kind kind.BLOCK ez in
            let w = seen ∙ put-block r (view rs) ex ez in
            let more : 0 < d.blocks = blocks-due (rw (ex, ey, ez) at o) in (
              record { version = λ g. absurd (omega (arith, g, e)); call = λ g. absurd (omega (arith, g, e)); dispatch = λ g. absurd (omega (arith, g, e)) },
              ih (after_block d r.body) (rw (ex, ey, ez) refl) (λ h i l. subst (Blocks m d) w bs more 0 (block_of r (view rs).code) i l refl) (λ h j. subst (Blocks m d) w bs more (suc j)) (subst (Within m) (program-other r rs f.0.size ex) vs),
            )
          where
            blocks-due : (eqb d.levels 0 and ltb 0 d.blocks and eqb d.instructions 0) ≡ true → 0 < d.blocks
            blocks-due h = ltb-true _ _ (and_both _ _ (and_both _ _ h).1).0
        go false false false ex ey ez o ih =
            let w = seen ∙ put-line r (view rs) ex ez in
            let l : ltb 0 d.instructions ≡ true = rw (ex, ey, ez) at o in
            let more = ltb-true 0 d.instructions l in (
              a-line r f.0 ex (subst (Lines m d) w ls more 0 (line_of r) refl),
              ih (after_line d) (rw (ex, ey, ez) refl) (λ h i. subst (Lines m d) w ls more (suc i)) (subst (Blocks m d) w bs) (subst (Within m) (program-other r rs f.0.size ex) vs),
            )

    pub all-raisable : (rs : List Rec) → Fits rs → question4 end rs ≡ None → Within m (program rs) → AllRaisable k rs
    unfolding question4
    all-raisable rs f q w = named-records rs start f q (λ h. absurd (omega (arith, h))) (λ h. absurd (omega (arith, h))) w
