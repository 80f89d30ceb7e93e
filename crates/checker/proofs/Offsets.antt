-- The offset of a refusal lies within the image that question 1 allows.
use Rattle.std.specs.Prelude.{None, Some, Err, Ok}
use mathlib.Core.Path.{◌≡◌, refl, sym, ◌∙◌}
use Rattle.layout.specs.Found.{Found}
use mathlib.Core.Option.{none}
use mathlib.Core.List.{List, [], ◌∷◌}
use mathlib.Core.Bool.{Bool, true, false, cond}
use Prim.Native.Nat.{ℕ, zero, suc, ◌+◌, ◌-◌, ◌≤◌}
use native.Mathlib.Omega.{arith}
use lib.ListN.{length, drop, length-drop}
use lib.Dec.{ltb, leb, eqb}
use borrow.Author.Tests.{leb-true}
use Rattle.layout.specs.Bounds.{IMAGE}
use Rattle.layout.specs.Kinds as kind
use Rattle.layout.specs.Tests.{◌and◌}
use Rattle.layout.specs.Records.{Rec, size_of, size_at, walk, rest, records}
use Rattle.layout.specs.Scan.{scan}
use Rattle.layout.specs.Questions.{question1, question2, question3, question4, question5, whole, fitting, same, nothing, placed, due_after, none_due, start, following, last_version}
use Rattle.layout.specs.declared.Due.{Due}
use Rattle.layout.specs.declared.Form.{Form}
use Rattle.layout.proofs.Bools.{and_both}
use Rattle.layout.proofs.Walk.{size_room}
use Rattle.program.specs.Program.{Line, Block, Version, Program, View, nowhere, level_of, line_of, block_of, version_of, put, put_by, view, view_by, program}
use Rattle.program.specs.Search.{Question, first_line, first_block, first}
use Rattle.program.specs.Questions.{question7}
use Rattle.program.specs.Skips.{no_ends, ends_after, ends_within, question14}
use Rattle.layout.proofs.Lists.{Each}
use Rattle.rules.specs.Questions.{question6, question8, question9, question18}
use Rattle.rules.specs.Flows.{question10}
use Rattle.checker.specs.Verdicts.{ask, verdict_in, Verdict, refused}
use Rattle.checker.proofs.Asks.{ask-no, refused-same}

-- the offset that is found is at most n
unfoldable Within : ℕ → Found → Type 0
Within n None = Unit {0}
Within n (Some p) = p ≤ n

-- by a test
within-either : (n : ℕ) (b : Bool) (x y : Found) → Within n x → Within n y → Within n (cond b x y)
within-either n true x y h k = h
within-either n false x y h k = k

-- ---- questions to the records

-- the record stands at n at most
abbrev RecIn : ℕ → Rec → Type 0
RecIn n r = r.at ≤ n

each_more : (m n : ℕ) (rs : List Rec) → m ≤ n → Each (RecIn m) rs → Each (RecIn n) rs
unfolding Each
each_more m n [] h e = tt
each_more m n (r ∷ rs) h e = (omega (arith, h, e.0), each_more m n rs h e.1)

size_fits : (t : List ℕ) → size_of t ≤ length t
unfolding size_at
size_fits t = omega (arith, size_room t 0 (omega arith))

walk-in : (f p : ℕ) (t : List ℕ) → Each (RecIn (p + length t)) (walk f p t)
unfolding walk Each
walk-in zero p t = tt
walk-in (suc f) p [] = tt
walk-in (suc f) p (b ∷ t) = (omega arith, go (eqb (size_of (b ∷ t)) 0) (walk-in f (p + size_of (b ∷ t)) (drop (size_of (b ∷ t)) (b ∷ t))))
  where
    go : (e : Bool) → Each (RecIn (p + size_of (b ∷ t) + length (drop (size_of (b ∷ t)) (b ∷ t)))) (walk f (p + size_of (b ∷ t)) (drop (size_of (b ∷ t)) (b ∷ t))) → Each (RecIn (p + length (b ∷ t))) (cond e [] (walk f (p + size_of (b ∷ t)) (drop (size_of (b ∷ t)) (b ∷ t))))
    go true h = tt
    go false h = each_more (p + size_of (b ∷ t) + length (drop (size_of (b ∷ t)) (b ∷ t))) (p + length (b ∷ t)) (walk f (p + size_of (b ∷ t)) (drop (size_of (b ∷ t)) (b ∷ t))) (omega (arith, size_fits (b ∷ t), length-drop (size_of (b ∷ t)) (b ∷ t))) h

records-in : (s : List ℕ) → Each (RecIn (length s)) (records s)
unfolding rest
records-in s = each_more (0 + length s) (length s) (walk (length s - 0) 0 s) (omega arith) (walk-in (length s - 0) 0 s)

scan-in : {S : Type 0} (ok : S → Rec → Bool) (next : S → Rec → S) (end : S → Found) (n : ℕ) → ((st : S) → Within n (end st)) → (rs : List Rec) → Each (RecIn n) rs → (st : S) → Within n (scan ok next end st rs)
unfolding scan Each Within
scan-in ok next end n last [] e st = last st
scan-in ok next end n last (r ∷ rs) e st = within-either n (ltb 0 r.size and ok st r) _ (Some r.at) (scan-in ok next end n last rs e.1 (next st r)) e.0

in-1 : (s : List ℕ) → Within (length s) (question1 s)
unfolding question1 Within
in-1 s = within-either (length s) (ltb 0 (length s) and leb (length s) IMAGE) None (Some 0) tt (omega arith)

module _ (n : ℕ) (rs : List Rec) (e : Each (RecIn n) rs) where
  in-2 : Within n (question2 rs)
  unfolding question2 Within
  in-2 = scan-in whole same nothing n (λ st. tt) rs e tt

  in-3 : (form : Form) → Within n (question3 form rs)
  unfolding question3 Within
  in-3 form = scan-in (fitting form) same nothing n (λ st. tt) rs e tt

  in-4 : Within n (question4 n rs)
  unfolding question4 none_due Within
  in-4 = scan-in placed due_after (none_due n) n (λ (d : Due). within-either n (eqb d.levels 0 and eqb d.blocks 0 and eqb d.instructions 0) None (Some n) tt (omega arith)) rs e start

  in-5 : Within n (question5 rs)
  unfolding question5 Within
  in-5 = scan-in following last_version nothing n (λ st. tt) rs e none

  in-14 : Within n (question14 rs)
  unfolding question14 Within
  in-14 = scan-in ends_within ends_after nothing n (λ st. tt) rs e no_ends

-- ---- questions to the program

abbrev LineIn : ℕ → Line → Type 0
LineIn n l = l.at ≤ n

abbrev BlockIn : ℕ → Block → Type 0
BlockIn n b = (b.at ≤ n) × Each (LineIn n) b.code

abbrev VersionIn : ℕ → Version → Type 0
VersionIn n v = (v.at ≤ n) × Each (BlockIn n) v.blocks

record ViewIn (n : ℕ) (w : View) : Type 0 where
  pub code : Each (LineIn n) w.code
  pub blocks : Each (BlockIn n) w.blocks
  pub versions : Each (VersionIn n) w.versions

nowhere-in : (n : ℕ) → ViewIn n nowhere
unfolding Each
nowhere-in n = record { code = tt; blocks = tt; versions = tt }

put_in : (n : ℕ) (r : Rec) (w : View) → r.at ≤ n → ViewIn n w → ViewIn n (put r w)
unfolding put_by Each
put_in n r w h e = go (eqb r.kind kind.VERSION) (eqb r.kind kind.BLOCK)
  where
    go : (a b : Bool) → ViewIn n (cond a (record { level = 0; code = []; blocks = []; versions = version_of r w.level w.blocks ∷ w.versions }) (cond b (record { level = 0; code = []; blocks = block_of r w.code ∷ w.blocks; versions = w.versions }) (record { level = level_of r; code = line_of r ∷ w.code; blocks = w.blocks; versions = w.versions })))
    go true b = record { code = tt; blocks = tt; versions = ((h, e.blocks), e.versions) }
    go false true = record { code = tt; blocks = ((h, e.code), e.blocks); versions = e.versions }
    go false false = record { code = (h, e.code); blocks = e.blocks; versions = e.versions }

view_in : (n : ℕ) (rs : List Rec) → Each (RecIn n) rs → ViewIn n (view rs)
unfolding view_by Each
view_in n [] e = nowhere-in n
view_in n (r ∷ rs) e = go (eqb r.size 0) (put_in n r (view rs) e.0 (view_in n rs e.1))
  where
    go : (b : Bool) → ViewIn n (put r (view rs)) → ViewIn n (cond b nowhere (put r (view rs)))
    go true h = nowhere-in n
    go false h = h

line-in : (q : Question) (v : Version) (k n : ℕ) (ls : List Line) (more : Found) → Each (LineIn n) ls → Within n more → Within n (first_line q v k ls more)
unfolding first_line Each Within
line-in q v k n [] more e h = h
line-in q v k n (l ∷ ls) more e h = within-either n (q.of_instr v k l.does) _ (Some l.at) (line-in q v k n ls more e.1 h) e.0

block_in : (q : Question) (v : Version) (k n : ℕ) (bs : List Block) (more : Found) → Each (BlockIn n) bs → Within n more → Within n (first_block q v k bs more)
unfolding first_block Each Within
block_in q v k n [] more e h = h
block_in q v k n (b ∷ bs) more e h = within-either n (q.of_block v k b) _ (Some b.at) (line-in q v k n b.code _ e.0.1 (block_in q v (k + 1) n bs more e.1 h)) e.0.0

first-in : (q : Question) (n : ℕ) (vs : Program) → Each (VersionIn n) vs → Within n (first q vs)
unfolding first Each Within
first-in q n [] e = tt
first-in q n (v ∷ vs) e = within-either n (q.of_version v) _ (Some v.at) (block_in q v 0 n v.blocks _ e.0.1 (first-in q n vs e.1)) e.0.0

-- the first record of an image that fails a question to its program stands within the image
pub first-low : (q : Question) (s : List ℕ) (p : ℕ) → first q (program (records s)) ≡ Some p → p ≤ length s
unfolding Within
first-low q s p e = let h : Within (length s) (first q (program (records s))) = first-in q (length s) (program (records s)) (view_in (length s) (records s) (records-in s)).versions in rw e at h

-- ---- the verdict

-- the offset of a refusal is at most n
unfoldable Low : ℕ → Verdict → Type 0
Low n (Ok k) = Unit {0}
Low n (Err why) = why.at ≤ n

ask-low : (n k : ℕ) (x : Found) (more : Verdict) → Within n x → Low n more → Low n (ask k x more)
unfolding ask Within Low
ask-low n k None more h e = e
ask-low n k (Some p) more h e = h

-- of one question after the other
verdict-in : (form : Form) (s : List ℕ) → Low (length s) (verdict_in form s)
unfolding verdict_in Low
verdict-in form s =
    let rs = records-in s in
    let vs = (view_in (length s) (records s) rs).versions in
    let P = program (records s) in
    ask-low _ 1 _ _ (in-1 s)
    (ask-low _ 2 _ _ (in-2 (length s) (records s) rs)
    (ask-low _ 3 _ _ (in-3 (length s) (records s) rs form)
    (ask-low _ 4 _ _ (in-4 (length s) (records s) rs)
    (ask-low _ 5 _ _ (in-5 (length s) (records s) rs)
    (ask-low _ 6 _ _ (first-in question6 (length s) P vs)
    (ask-low _ 7 _ _ (first-in (question7 P) (length s) P vs)
    (ask-low _ 14 _ _ (in-14 (length s) (records s) rs)
    (ask-low _ 8 _ _ (first-in (question8 P) (length s) P vs)
    (ask-low _ 18 _ _ (first-in (question18 P) (length s) P vs)
    (ask-low _ 9 _ _ (first-in (question9 P) (length s) P vs)
    (ask-low _ 10 _ _ (first-in (question10 P) (length s) P vs) tt)))))))))))

-- THE LAW: an image that is too long is refused at 0
pub refused-low : (form : Form) (s : List ℕ) (q p : ℕ) → verdict_in form s ≡ Err (refused q p) → p ≤ IMAGE
unfolding verdict_in question1 Low
refused-low form s q p e = go (ltb 0 (length s) and leb (length s) IMAGE) refl
  where
    inside : p ≤ length s
    inside = let h : Low (length s) (verdict_in form s) = verdict-in form s in rw e at h

    go : (b : Bool) → (ltb 0 (length s) and leb (length s) IMAGE) ≡ b → p ≤ IMAGE
    go true t = omega (arith, inside, leb-true (length s) IMAGE (and_both _ _ t).1)
    go false t =
        let x : question1 s ≡ Some 0 = rw t refl in
        let y : verdict_in form s ≡ Err (refused 1 0) = ask-no 1 _ x in
        omega (arith, (refused-same (sym y ∙ e)).1)
