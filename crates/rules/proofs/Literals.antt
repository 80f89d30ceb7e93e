-- Two programs that differ in the numbers of literals alone, as those do that the two forms make of the same records: each question finds the same record in both.
use Rattle.std.specs.Prelude.{Some}
use mathlib.Core.Path.{◌≡◌, refl, sym, ap, ap₂, ◌∙◌, subst}
use Rattle.layout.specs.Found.{Found}
use mathlib.Core.List.{List, [], ◌∷◌, map}
use mathlib.Core.Bool.{Bool, true, false, cond}
use Prim.Native.Nat.{ℕ, ◌+◌}
use native.Mathlib.Omega.{arith}
use lib.ListN.{length}
use lib.Dec.{eqb}
use Rattle.layout.specs.Kinds as kind
use Rattle.layout.specs.Records.{Rec, choose}
use Rattle.layout.specs.declared.Form.{Form}
use Rattle.program.specs.Program.{Instr, Line, Block, Version, Program, View, nowhere, block_of, instr_by, level_of, line_by, put_by, version_of, view_by, program_by}
use Rattle.program.specs.Search.{Question, first_line, first_block, first}
use Rattle.program.specs.Questions.{question7}
use Rattle.rules.specs.Questions.{question6, question8, question18, question9}
use Rattle.rules.specs.Flows.{question10}
use Rattle.rules.proofs.Shapes.{Same, blank, map-length, same-6, same-7, same-8, same-18, same-9, same-10, shape, shape_block, shape_line}

-- ---- a program without the numbers of literals

abbrev pub bare_line : Line → Line
bare_line l = record { at = l.at; does = blank l.does }

abbrev pub bare_block : Block → Block
bare_block b = record { at = b.at; mark = b.mark; result = b.result; code = map bare_line b.code }

abbrev pub bare : Version → Version
bare v = record { at = v.at; function = v.function; version = v.version; parameters = v.parameters; types = v.types; return = v.return; level = v.level; blocks = map bare_block v.blocks }

-- without its offsets too it is the shape

abbrev placeless : Line → Line
placeless l = record { at = 0; does = l.does }

abbrev placeless_block : Block → Block
placeless_block b = record { at = 0; mark = b.mark; result = b.result; code = map placeless b.code }

abbrev unplaced : Version → List Block → Version
unplaced v bs = record { at = 0; function = v.function; version = v.version; parameters = v.parameters; types = v.types; return = v.return; level = v.level; blocks = bs }

abbrev placeless_version : Version → Version
placeless_version v = unplaced v (map placeless_block v.blocks)

lines-shape : (ls : List Line) → map placeless (map bare_line ls) ≡ map shape_line ls
lines-shape [] = refl
lines-shape (l ∷ ls) = ap (λ (x : List Line). shape_line l ∷ x) (lines-shape ls)

block-shape : (b : Block) → placeless_block (bare_block b) ≡ shape_block b
block-shape b = ap (λ (c : List Line). record { at = 0; mark = b.mark; result = b.result; code = c }) (lines-shape b.code)

blocks-shape : (bs : List Block) → map placeless_block (map bare_block bs) ≡ map shape_block bs
blocks-shape [] = refl
blocks-shape (b ∷ bs) = ap₂ ◌∷◌ (block-shape b) (blocks-shape bs)

version-shape : (v : Version) → placeless_version (bare v) ≡ shape v
version-shape v = ap (unplaced v) (blocks-shape v.blocks)

versions-shape : (P : Program) → map placeless_version (map bare P) ≡ map shape P
versions-shape [] = refl
versions-shape (v ∷ vs) = ap₂ ◌∷◌ (version-shape v) (versions-shape vs)

-- ---- the first that fails

-- of two lists that are made equal, the firsts and the others are
heads : {A B : Type 0} (f : A → B) (x y : A) (l m : List A) → map f (x ∷ l) ≡ map f (y ∷ m) → (f x ≡ f y) × (map f l ≡ map f m)
heads f x y l m e = (cc, cc)

empty-not : {A B C : Type 0} (f : A → B) (x : A) (l : List A) → [] ≡ map f (x ∷ l) → C
empty-not f x l e = let z : ◌≡◌ {A = ℕ} 0 1 = cc in absurd (omega arith)

either_same : (a b : Bool) (x y : Found) (p p' : ℕ) → a ≡ b → x ≡ y → p ≡ p' → cond a x (Some p) ≡ cond b y (Some p')
either_same a b x y p p' e h l = rw (e, h, l) refl

module _ (q q' r : Question) (s : Same q q') (t : Same r q') where
  line_same : (v w : Version) → shape v ≡ shape w → (n : ℕ) (ls ms : List Line) → map bare_line ls ≡ map bare_line ms → (x y : Found) → x ≡ y → first_line q v n ls x ≡ first_line r w n ms y
  unfolding first_line
  line_same v w e n [] [] h x y g = g
  line_same v w e n [] (m ∷ ms) h x y g = empty-not bare_line m ms h
  line_same v w e n (l ∷ ls) [] h x y g = empty-not bare_line l ls (sym h)
  line_same v w e n (l ∷ ls) (m ∷ ms) h x y g =
      let z = heads bare_line l m ls ms h in
      let i : blank l.does ≡ blank m.does = ap (λ (k : Line). k.does) z.0 in
      either_same _ _ _ _ _ _ (s.instr v n l.does ∙ ap₂ (λ (u : Version) (k : Instr). q'.of_instr u n k) e i ∙ sym (t.instr w n m.does))
      (line_same v w e n ls ms z.1 x y g)
      (ap (λ (k : Line). k.at) z.0)

  block_same : (v w : Version) → shape v ≡ shape w → (n : ℕ) (bs cs : List Block) → map bare_block bs ≡ map bare_block cs → (x y : Found) → x ≡ y → first_block q v n bs x ≡ first_block r w n cs y
  unfolding first_block
  block_same v w e n [] [] h x y g = g
  block_same v w e n [] (c ∷ cs) h x y g = empty-not bare_block c cs h
  block_same v w e n (b ∷ bs) [] h x y g = empty-not bare_block b bs (sym h)
  block_same v w e n (b ∷ bs) (c ∷ cs) h x y g =
      let z = heads bare_block b c bs cs h in
      let i : shape_block b ≡ shape_block c = sym (block-shape b) ∙ ap placeless_block z.0 ∙ block-shape c in
      either_same _ _ _ _ _ _ (s.block v n b ∙ ap₂ (λ (u : Version) (k : Block). q'.of_block u n k) e i ∙ sym (t.block w n c))
      (line_same v w e n b.code c.code (ap (λ (k : Block). k.code) z.0) _ _ (block_same v w e (n + 1) bs cs z.1 x y g))
      (ap (λ (k : Block). k.at) z.0)

  first-same : (P Q : Program) → map bare P ≡ map bare Q → first q P ≡ first r Q
  unfolding first
  first-same [] [] h = refl
  first-same [] (w ∷ ws) h = empty-not bare w ws h
  first-same (v ∷ vs) [] h = empty-not bare v vs (sym h)
  first-same (v ∷ vs) (w ∷ ws) h =
      let z = heads bare v w vs ws h in
      let e : shape v ≡ shape w = sym (version-shape v) ∙ ap placeless_version z.0 ∙ version-shape w in
      either_same _ _ _ _ _ _ (s.version v ∙ ap q'.of_version e ∙ sym (t.version w))
      (block_same v w e 0 v.blocks w.blocks (ap (λ (k : Version). k.blocks) z.0) _ _ (first-same vs ws z.1))
      (ap (λ (k : Version). k.at) z.0)

-- THE LAWS
module _ (P Q : Program) (e : map bare P ≡ map bare Q) where
  pub bare-shape : map shape P ≡ map shape Q
  bare-shape = sym (versions-shape P) ∙ ap (map placeless_version) e ∙ versions-shape Q

  pub bare-length : length P ≡ length Q
  bare-length = sym (map-length bare P) ∙ ap length e ∙ map-length bare Q

  both_first : (k : Program → Question) → ((X : Program) → Same (k X) (k (map shape X))) → first (k P) P ≡ first (k Q) Q
  both_first k s = first-same (k P) (k (map shape P)) (k Q) (s P) (subst (λ (X : Program). Same (k Q) (k X)) (sym bare-shape) (s Q)) P Q e

  pub bare-6 : first question6 P ≡ first question6 Q
  bare-6 = both_first (λ X. question6) same-6

  pub bare-7 : first (question7 P) P ≡ first (question7 Q) Q
  bare-7 = both_first question7 same-7

  pub bare-8 : first (question8 P) P ≡ first (question8 Q) Q
  bare-8 = both_first question8 same-8

  pub bare-18 : first (question18 P) P ≡ first (question18 Q) Q
  bare-18 = both_first question18 same-18

  pub bare-9 : first (question9 P) P ≡ first (question9 Q) Q
  bare-9 = both_first question9 same-9

  pub bare-10 : first (question10 P) P ≡ first (question10 Q) Q
  bare-10 = both_first question10 same-10

-- ---- the two forms

-- a row that is not there
choose-blank : (k : ℕ) (x y : Instr) (rows : List (ℕ × Instr)) → blank x ≡ blank y → blank (choose k x rows) ≡ blank (choose k y rows)
unfolding choose
choose-blank k x y [] e = e
choose-blank k x y (row ∷ rows) e = go (eqb k row.0) (choose-blank k x y rows e)
  where
    go : (b : Bool) → blank (choose k x rows) ≡ blank (choose k y rows) → blank (cond b row.1 (choose k x rows)) ≡ blank (cond b row.1 (choose k y rows))
    go true h = refl
    go false h = h

instr-blank : (F G : Form) (k : ℕ) (b : List ℕ) → blank (instr_by F k b) ≡ blank (instr_by G k b)
unfolding instr_by blank
instr-blank F G k b = choose-blank k _ _ _ refl

-- what two views show alike
record Alike (x y : View) : Type 0 where
  level : x.level ≡ y.level
  code : map bare_line x.code ≡ map bare_line y.code
  blocks : map bare_block x.blocks ≡ map bare_block y.blocks
  versions : map bare x.versions ≡ map bare y.versions

nowhere-alike : Alike nowhere nowhere
nowhere-alike = record { level = refl; code = refl; blocks = refl; versions = refl }

-- what a record puts before a view
abbrev with_version : Rec → View → View
with_version r w = record { level = 0; code = []; blocks = []; versions = version_of r w.level w.blocks ∷ w.versions }

abbrev with_block : Rec → View → View
with_block r w = record { level = 0; code = []; blocks = block_of r w.code ∷ w.blocks; versions = w.versions }

abbrev with_line : Form → Rec → View → View
with_line form r w = record { level = level_of r; code = line_by form r ∷ w.code; blocks = w.blocks; versions = w.versions }

put-alike : (F G : Form) (r : Rec) (x y : View) → Alike x y → Alike (put_by F r x) (put_by G r y)
unfolding put_by
put-alike F G r x y a = go (eqb r.kind kind.VERSION) (eqb r.kind kind.BLOCK)
  where
    line : bare_line (line_by F r) ≡ bare_line (line_by G r)
    line = ap (λ (i : Instr). record { at = r.at; does = i }) (instr-blank F G r.kind r.body)

    block : bare_block (block_of r x.code) ≡ bare_block (block_of r y.code)
    block = ap (block_of r) a.code

    version : bare (version_of r x.level x.blocks) ≡ bare (version_of r y.level y.blocks)
    version = ap₂ (version_of r) a.level a.blocks

    go : (v b : Bool) → Alike (cond v (with_version r x) (cond b (with_block r x) (with_line F r x))) (cond v (with_version r y) (cond b (with_block r y) (with_line G r y)))
    go true b = record { level = refl; code = refl; blocks = refl; versions = ap₂ ◌∷◌ version a.versions }
    go false true = record { level = refl; code = refl; blocks = ap₂ ◌∷◌ block a.blocks; versions = a.versions }
    go false false = record { level = refl; code = ap₂ ◌∷◌ line a.code; blocks = a.blocks; versions = a.versions }

view-alike : (F G : Form) (rs : List Rec) → Alike (view_by F rs) (view_by G rs)
unfolding view_by
view-alike F G [] = nowhere-alike
view-alike F G (r ∷ rs) = go (eqb r.size 0) (put-alike F G r (view_by F rs) (view_by G rs) (view-alike F G rs))
  where
    go : (b : Bool) → Alike (put_by F r (view_by F rs)) (put_by G r (view_by G rs)) → Alike (cond b nowhere (put_by F r (view_by F rs))) (cond b nowhere (put_by G r (view_by G rs)))
    go true h = nowhere-alike
    go false h = h

-- THE LAW: the programs that two forms make of the same records
pub forms-bare : (F G : Form) (rs : List Rec) → map bare (program_by F rs) ≡ map bare (program_by G rs)
forms-bare F G rs = (view-alike F G rs).versions
