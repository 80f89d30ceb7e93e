-- Records in both forms make programs that are alike.
use Rattle.std.specs.Prelude.{None}
use mathlib.Core.Path.{◌≡◌, refl, sym, ap, ap₂, ◌∙◌, subst}
use mathlib.Core.Logic.{◌⊎◌, inl, inr}
use mathlib.Core.List.{List, [], ◌∷◌, map}
use mathlib.Core.Bool.{Bool, true, false, cond}
use Prim.Native.Nat.{ℕ, ◌<◌}
use native.Mathlib.Omega.{arith}
use lib.Dec.{eqb, ltb}
use borrow.Author.Tests.{ne_eqb, eqb-true, ltb-true}
use Rattle.layout.specs.Kinds as kind
use Rattle.layout.specs.Records.{Rec, ◌!◌, choose}
use Rattle.layout.specs.Forms.{literal_kind, literal_length}
use Rattle.layout.specs.Questions.{plain_length, in_order, due_after, none_due, placed, question4, start}
use Rattle.layout.specs.Scan.{scan}
use Rattle.layout.specs.Tests.{◌and◌}
use Rattle.layout.specs.declared.Due.{Due}
use Rattle.layout.proofs.Bools.{and_both}
use Rattle.layout.specs.declared.Form.{Form}
use Rattle.program.specs.Program.{Instr, LIT, Line, Block, Version, View, block_of, instr_by, level_of, nowhere, number_in, program, program_by, put_by, version_of, view_by}
use Rattle.program.proofs.Laid.{passed}
use Rattle.rules.proofs.Shapes.{blank, shape}
use Rattle.runs.specs.Alike.{AllAlike}
use Rattle.runs.proofs.Alike.{bare_alike}

-- ---- an image in both forms

-- a literal of both forms: of the same register and the same number
pub record Literal (r q : Rec) : Type 0 where
  pub old : r.kind ≡ literal_kind Form.Narrow
  pub new : q.kind ≡ literal_kind Form.Wide
  pub old-size : r.size ≡ literal_length Form.Narrow
  pub old-bytes : (i : ℕ) → r.body ! i < 256
  pub new-size : q.size ≡ literal_length Form.Wide
  pub register : q.body ! 0 ≡ r.body ! 0
  pub number : number_in Form.Wide q.body ≡ number_in Form.Narrow r.body

-- any other record stays as it is, but for where it stands; its kind is one of both forms
pub record Kept (r q : Rec) : Type 0 where
  pub whole : 0 < r.size
  pub known : r.size ≡ plain_length r.kind r.body
  pub same_kind : q.kind ≡ r.kind
  pub same_size : q.size ≡ r.size
  pub same_body : q.body ≡ r.body

-- each literal of the first is one of 64 bits in the second, and all else is the same
unfoldable pub Widened : List Rec → List Rec → Type 0
Widened [] [] = Unit {0}
Widened [] (q ∷ qs) = ⊥
Widened (r ∷ rs) [] = ⊥
Widened (r ∷ rs) (q ∷ qs) = (Literal r q ⊎ Kept r q) × Widened rs qs

-- ---- an instruction in both forms

-- has a row the number k?
unfoldable keyed : {A : Type 0} → ℕ → List (ℕ × A) → Bool
keyed k [] = false
keyed k (row ∷ rows) = cond (eqb k row.0) true (keyed k rows)

row-there : {A : Type 0} (k : ℕ) (x y : A) (rows : List (ℕ × A)) → keyed k rows ≡ true → choose k x rows ≡ choose k y rows
unfolding keyed choose
row-there k x y [] e = let z : ◌≡◌ {A = ℕ} 0 1 = cc in absurd (omega arith)
row-there {A} k x y (row ∷ rows) e = go (eqb k row.0) e (row-there k x y rows)
  where
    go : (b : Bool) → cond b true (keyed k rows) ≡ true → (keyed k rows ≡ true → choose k x rows ≡ choose k y rows) → cond b row.1 (choose k x rows) ≡ cond b row.1 (choose k y rows)
    go true h ih = refl
    go false h ih = ih h

row-missing : {A : Type 0} (k : ℕ) (x : A) (rows : List (ℕ × A)) → keyed k rows ≡ false → choose k x rows ≡ x
unfolding keyed choose
row-missing k x [] e = refl
row-missing {A} k x (row ∷ rows) e = go (eqb k row.0) e (row-missing k x rows)
  where
    go : (b : Bool) → cond b true (keyed k rows) ≡ false → (keyed k rows ≡ false → choose k x rows ≡ x) → cond b row.1 (choose k x rows) ≡ x
    go true h ih = let z : ◌≡◌ {A = ℕ} 0 1 = cc in absurd (omega arith)
    go false h ih = ih h

-- behind three other rows
rows-missing : {A : Type 0} (k : ℕ) (x : A) (p q t : ℕ × A) (rows : List (ℕ × A)) → eqb k p.0 ≡ false → eqb k q.0 ≡ false → eqb k t.0 ≡ false → keyed k rows ≡ false → choose k x (p ∷ q ∷ t ∷ rows) ≡ x
unfolding choose
rows-missing k x p q t rows e f g h = rw (e, f, g) (row-missing k x rows h)

not-false : (a : Bool) → (a ≡ false → ⊥) → a ≡ true
not-false true h = refl
not-false false h = absurd (h refl)

-- a kind of both forms that is no VERSION, BLOCK or LEVEL has a row of its own among the instructions
kept-instr : (k : ℕ) (b : List ℕ) → eqb k kind.VERSION ≡ false → eqb k kind.BLOCK ≡ false → eqb k kind.LEVEL ≡ false → 0 < plain_length k b → instr_by Form.Narrow k b ≡ instr_by Form.Wide k b
unfolding instr_by plain_length keyed
kept-instr k b v w g h = row-there k _ _ _ (not-false _ (λ e. let z : plain_length k b ≡ 0 = rows-missing k 0 _ _ _ _ v w g e in absurd (omega (arith, h, z))))

literal-instr : (form : Form) (k : ℕ) (b : List ℕ) → k ≡ literal_kind form → instr_by form k b ≡ LIT (b ! 0) (number_in form b)
unfolding instr_by choose literal_kind
literal-instr Form.Narrow k b e = rw e refl
literal-instr Form.Wide k b e = rw e refl

-- ---- views without offsets, each instruction by a map g

module _ (g : Instr → Instr) where
  abbrev line_with : Line → Line
  line_with l = record { at = 0; does = g l.does }

  abbrev block_with : Block → Block
  block_with b = record { at = 0; mark = b.mark; result = b.result; code = map line_with b.code }

  abbrev version_with : Version → Version
  version_with v = record { at = 0; function = v.function; version = v.version; parameters = v.parameters; types = v.types; return = v.return; level = v.level; blocks = map block_with v.blocks }

  abbrev view_with : View → View
  view_with w = record { level = w.level; code = map line_with w.code; blocks = map block_with w.blocks; versions = map version_with w.versions }

-- a record of the kind k with this body, at the offset 0
abbrev bare_rec : ℕ → List ℕ → Rec
bare_rec k b = record { at = 0; size = 0; kind = k; body = b }

-- `put_by` without offsets, by what the record makes
unfoldable put_bare : Instr → ℕ → List ℕ → View → View
put_bare i k b w =
    cond (eqb k kind.VERSION) (record { level = 0; code = []; blocks = []; versions = version_of (bare_rec k b) w.level w.blocks ∷ w.versions })
    (cond (eqb k kind.BLOCK) (record { level = 0; code = []; blocks = block_of (bare_rec k b) w.code ∷ w.blocks; versions = w.versions })
    (record { level = level_of (bare_rec k b); code = record { at = 0; does = i } ∷ w.code; blocks = w.blocks; versions = w.versions }))

module _ (g : Instr → Instr) where
  by-test : (a : Bool) (x y : View) → view_with g (cond a x y) ≡ cond a (view_with g x) (view_with g y)
  by-test true x y = refl
  by-test false x y = refl

  -- of a record and those behind it
  abbrev turn : Form → Rec → View → View
  turn form r w = cond (eqb r.size 0) nowhere (put_bare (g (instr_by form r.kind r.body)) r.kind r.body w)

  put-with : (form : Form) (r : Rec) (w : View) → view_with g (put_by form r w) ≡ put_bare (g (instr_by form r.kind r.body)) r.kind r.body (view_with g w)
  unfolding put_by put_bare
  put-with form r w = by-test (eqb r.kind kind.VERSION) _ _ ∙ ap (cond (eqb r.kind kind.VERSION) _) (by-test (eqb r.kind kind.BLOCK) _ _)

  turn-with : (form : Form) (r : Rec) (rs : List Rec) → view_with g (view_by form (r ∷ rs)) ≡ turn form r (view_with g (view_by form rs))
  unfolding view_by
  turn-with form r rs = by-test (eqb r.size 0) nowhere _ ∙ ap (cond (eqb r.size 0) nowhere) (put-with form r (view_by form rs))

  -- records that put the same make the same view
  view-with : (F G : Form) → ((r q : Rec) → (Literal r q ⊎ Kept r q) → (x : View) → turn F r x ≡ turn G q x) → (rs qs : List Rec) → Widened rs qs → view_with g (view_by F rs) ≡ view_with g (view_by G qs)
  unfolding Widened view_by
  view-with F G same [] [] h = refl
  view-with F G same [] (q ∷ qs) h = absurd h
  view-with F G same (r ∷ rs) [] h = absurd h
  view-with F G same (r ∷ rs) (q ∷ qs) h =
      turn-with F r rs ∙ ap (turn F r) (view-with F G same rs qs h.1) ∙ same r q h.0 (view_with g (view_by G qs)) ∙ sym (turn-with G q qs)

-- ---- what a record puts, in both forms

whole-eqb : {n : ℕ} → 0 < n → eqb n 0 ≡ false
whole-eqb {n} h = ne_eqb n 0 (λ z. omega (arith, z, h))

pub old-whole : (r q : Rec) → Literal r q → 0 < r.size
unfolding literal_length
old-whole r q l = omega (arith, l.old-size)

pub new-whole : (r q : Rec) → Literal r q → 0 < q.size
unfolding literal_length
new-whole r q l = omega (arith, l.new-size)

-- what two views show alike, by what is due before them: of instructions that is said where no level is due
record Near (d : Due) (x y : View) : Type 0 where
  level : x.level ≡ y.level
  code : d.levels ≡ 0 → x.code ≡ y.code
  blocks : x.blocks ≡ y.blocks
  versions : x.versions ≡ y.versions

-- a record of both forms, which stays as it is
module _ (d : Due) (k : ℕ) (b : List ℕ) (x y : View) (a : Near (due_after d (bare_rec k b)) x y) (order : in_order d k ≡ true) (known : 0 < plain_length k b) where
  abbrev Put : Type 0
  Put = Near d (put_bare (instr_by Form.Narrow k b) k b x) (put_bare (instr_by Form.Wide k b) k b y)

  kept-version : eqb k kind.VERSION ≡ true → Put
  unfolding put_bare
  kept-version e = rw e (record { level = refl; code = λ z. refl; blocks = refl; versions = ap (λ (l : ℕ). version_of (bare_rec k b) l x.blocks ∷ x.versions) a.level ∙ ap₂ (λ (bs : List Block) (vs : List Version). version_of (bare_rec k b) y.level bs ∷ vs) a.blocks a.versions })

  kept-level : eqb k kind.VERSION ≡ false → eqb k kind.BLOCK ≡ false → eqb k kind.LEVEL ≡ true → Put
  unfolding put_bare in_order choose
  kept-level e f g = rw (e, f) (record { level = refl; code = λ z. absurd (due z); blocks = a.blocks; versions = a.versions })
    where
      due : d.levels ≡ 0 → ⊥
      due z = let h : ltb 0 d.levels ≡ true = simp (e, f, g) at order in omega (arith, z, ltb-true 0 d.levels h)

  kept_block : eqb k kind.VERSION ≡ false → eqb k kind.BLOCK ≡ true → Put
  unfolding put_bare in_order due_after choose
  kept_block e f = rw (e, f) (record { level = refl; code = λ z. refl; blocks = ap₂ (λ (c : List Line) (bs : List Block). block_of (bare_rec k b) c ∷ bs) (a.code none) a.blocks; versions = a.versions })
    where
      is : k ≡ kind.BLOCK
      is = eqb-true k kind.BLOCK f

      none : (due_after d (bare_rec k b)).levels ≡ 0
      none = let h : (eqb d.levels 0 and ltb 0 d.blocks and eqb d.instructions 0) ≡ true = simp is at order in simp (is, eqb-true d.levels 0 (and_both _ _ h).0)

  kept_line : eqb k kind.VERSION ≡ false → eqb k kind.BLOCK ≡ false → eqb k kind.LEVEL ≡ false → Put
  unfolding put_bare due_after choose
  kept_line e f g = rw (e, f) (record { level = refl; code = λ z. ap₂ (λ (i : Instr) (c : List Line). record { at = 0; does = i } ∷ c) (kept-instr k b e f g known) (a.code (left z)); blocks = a.blocks; versions = a.versions })
    where
      left : d.levels ≡ 0 → (due_after d (bare_rec k b)).levels ≡ 0
      left z = simp (e, f, g, z)

  kept_near : Put
  kept_near = go (eqb k kind.VERSION) (eqb k kind.BLOCK) (eqb k kind.LEVEL) refl refl refl
    where
      go : (v w u : Bool) → eqb k kind.VERSION ≡ v → eqb k kind.BLOCK ≡ w → eqb k kind.LEVEL ≡ u → Put
      go true w u e f g = kept-version e
      go false true u e f g = kept_block e f
      go false false true e f g = kept-level e f g
      go false false false e f g = kept_line e f g

-- a record of either kind, each in its form
turn_near : (d : Due) (r q : Rec) (x y : View) → (Literal r q ⊎ Kept r q) → in_order d r.kind ≡ true → Near (due_after d r) x y → Near d (turn (λ i. i) Form.Narrow r x) (turn (λ i. i) Form.Wide q y)
unfolding put_bare due_after choose literal_kind
turn_near d r q x y (inl l) order a =
    rw (
      whole-eqb (old-whole r q l),
      whole-eqb (new-whole r q l),
      literal-instr Form.Narrow r.kind r.body l.old,
      literal-instr Form.Wide q.kind q.body l.new,
      l.old,
      l.new,
      l.register,
      l.number,
    ) (record { level = refl; code = λ z. ap (λ (c : List Line). record { at = 0; does = LIT (r.body ! 0) (number_in Form.Narrow r.body) } ∷ c) (a.code (left z)); blocks = a.blocks; versions = a.versions })
  where
    left : d.levels ≡ 0 → (due_after d r).levels ≡ 0
    left z = simp (l.old, z)
turn_near d r q x y (inr k) order a =
    rw (k.same_kind, k.same_size, k.same_body, whole-eqb k.whole) (kept_near d r.kind r.body x y a order (omega (arith, k.whole, k.known)))

-- views of records in both forms, where the records are in order
views-near : (end : ℕ) (rs qs : List Rec) (d : Due) → Widened rs qs → scan placed due_after (none_due end) d rs ≡ None → Near d (view_with (λ i. i) (view_by Form.Narrow rs)) (view_with (λ i. i) (view_by Form.Wide qs))
unfolding Widened scan view_by
views-near end [] [] d h o = record { level = refl; code = λ z. refl; blocks = refl; versions = refl }
views-near end [] (q ∷ qs) d h o = absurd h
views-near end (r ∷ rs) [] d h o = absurd h
views-near end (r ∷ rs) (q ∷ qs) d h o =
    let p = passed _ _ r.at o in
    let t = and_both _ _ (and_both _ _ p.0).1 in
    let a = turn_near d r q _ _ h.0 t.1 (views-near end rs qs (due_after d r) h.1 p.1) in
    rw (turn-with (λ i. i) Form.Narrow r rs, turn-with (λ i. i) Form.Wide q qs) a

-- its shape, both in the form in force
turn-shape : (r q : Rec) → (Literal r q ⊎ Kept r q) → (x : View) → turn blank Form.Wide r x ≡ turn blank Form.Wide q x
unfolding put_bare literal_kind instr_by choose blank
turn-shape r q (inl l) x = rw (whole-eqb (old-whole r q l), whole-eqb (new-whole r q l), l.old, l.new, l.register) refl
turn-shape r q (inr k) x = rw (k.same_kind, k.same_size, k.same_body) refl

-- THE LAW: records in both forms, in the order that question 4 asks for, make alike programs
pub forms-alike : (rs qs : List Rec) → Widened rs qs → (end : ℕ) → question4 end rs ≡ None → AllAlike (program_by Form.Narrow rs) (program_by Form.Wide qs)
unfolding question4
forms-alike rs qs h end o = bare_alike _ _ (views-near end rs qs start h o).versions

-- THE LAW: both, read in the form in force, make programs of the same shape
pub forms-shape : (rs qs : List Rec) → Widened rs qs → map shape (program rs) ≡ map shape (program qs)
forms-shape rs qs h = ap (λ (w : View). w.versions) (view-with blank Form.Wide Form.Wide turn-shape rs qs h)
