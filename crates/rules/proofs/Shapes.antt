-- Questions 6 to 10 and 18 look at no offset and at no literal's number: of two programs of the same shape, both pass or none does.
use Rattle.std.specs.Prelude.{None, Some}
use mathlib.Core.Path.{◌≡◌, refl, sym, ap, ap₂, ◌∙◌}
use Rattle.layout.specs.Found.{Found}
use mathlib.Core.List.{List, [], ◌∷◌, map}
use mathlib.Core.Option.{Option, none, some, Option-elim}
use mathlib.Core.Bool.{Bool, true, false, cond, not, ◌||◌}
use Prim.Native.Nat.{ℕ, zero, suc, ◌+◌, ◌-◌}
use lib.IntN.{ℤ, pos}
use lib.ListN.{length, take, get_elem?, replicate, get_or}
use lib.Dec.{eqb, leb, ltb}
use Rattle.layout.specs.Bounds.{INSTRUCTIONS}
use Rattle.layout.specs.Tests.{◌and◌, all, any, count, found}
use Rattle.program.specs.Program.{Argument, Instr, LIT, MOVE, USE, DUP, VEC, LEN, GET, SET, ARITH, SELECT, CAST, NAMED, STORE, PROM, FORCE, PEEK, POKE, CALL, DISPATCH, SKIP, Line, Block, Version, Program, find_version, first_mark, given}
use Rattle.program.specs.Search.{Question, first_line, first_block, first}
use Rattle.program.specs.Questions.{register_exists, exists, names_block, namings, block_named, question7}
use Rattle.rules.specs.Fits.{fresh, fits_argument, fits_return, fits_call, fits, fits_result, plain, promise_kind}
use Rattle.rules.specs.Effects.{reflective, covered}
use Rattle.rules.specs.Questions.{version_types, types_allowed, stays_down, question6, question8, question18, question9}
use Rattle.rules.specs.Actions.{Action, Walk, reads◌empties◌assigns◌, reading, emptied, touch, action_of, skip_of, here, past, walk, start, along, enter, actions, body_action, ◌then◌}
use Rattle.sets.specs.Sets.{below}
use Rattle.rules.specs.Flows.{flows, question10}

-- ---- the shape of a program

-- a literal without its number
unfoldable pub blank : Instr → Instr
blank (LIT d i) = LIT d (pos 0)
blank (MOVE d a) = MOVE d a
blank (USE d a) = USE d a
blank (DUP d a) = DUP d a
blank (VEC d rs) = VEC d rs
blank (LEN d a) = LEN d a
blank (GET d a i) = GET d a i
blank (SET a i e) = SET a i e
blank (ARITH d op a b) = ARITH d op a b
blank (SELECT d c a b) = SELECT d c a b
blank (CAST d a) = CAST d a
blank (NAMED d x) = NAMED d x
blank (STORE x a) = STORE x a
blank (PROM d block) = PROM d block
blank (FORCE d a) = FORCE d a
blank (PEEK d a x) = PEEK d a x
blank (POKE a x e) = POKE a x e
blank (CALL d f w rs) = CALL d f w rs
blank (DISPATCH d f mark ret pairs) = DISPATCH d f mark ret pairs
blank (SKIP a n) = SKIP a n

-- without offsets and without the numbers of literals
abbrev pub shape_line : Line → Line
shape_line l = record { at = 0; does = blank l.does }

abbrev pub shape_block : Block → Block
shape_block b = record { at = 0; mark = b.mark; result = b.result; code = map shape_line b.code }

abbrev pub shape : Version → Version
shape v = record { at = 0; function = v.function; version = v.version; parameters = v.parameters; types = v.types; return = v.return; level = v.level; blocks = map shape_block v.blocks }

-- what looks at no literal's number
by-blank : {A : Type 0} (f : Instr → A) → ((d : ℕ) (i : ℤ) → f (LIT d i) ≡ f (LIT d (pos 0))) → (i : Instr) → f i ≡ f (blank i)
unfolding blank
by-blank f h (LIT d i) = h d i
by-blank f h (MOVE d a) = refl
by-blank f h (USE d a) = refl
by-blank f h (DUP d a) = refl
by-blank f h (VEC d rs) = refl
by-blank f h (LEN d a) = refl
by-blank f h (GET d a i) = refl
by-blank f h (SET a i e) = refl
by-blank f h (ARITH d op a b) = refl
by-blank f h (SELECT d c a b) = refl
by-blank f h (CAST d a) = refl
by-blank f h (NAMED d x) = refl
by-blank f h (STORE x a) = refl
by-blank f h (PROM d block) = refl
by-blank f h (FORCE d a) = refl
by-blank f h (PEEK d a x) = refl
by-blank f h (POKE a x e) = refl
by-blank f h (CALL d g w rs) = refl
by-blank f h (DISPATCH d g mark ret pairs) = refl
by-blank f h (SKIP a n) = refl

-- ---- lists

module _ {A B : Type 0} (p : A → Bool) (q : B → Bool) (g : A → B) (h : (x : A) → p x ≡ q (g x)) where
  any-shape : (l : List A) → any p l ≡ any q (map g l)
  unfolding any
  any-shape [] = refl
  any-shape (x ∷ l) = rw (h x, any-shape l) refl

  count-shape : (l : List A) → count p l ≡ count q (map g l)
  unfolding count
  count-shape [] = refl
  count-shape (x ∷ l) = rw (h x, count-shape l) refl

pub map-length : {A B : Type 0} (g : A → B) (l : List A) → length (map g l) ≡ length l
map-length g [] = refl
map-length g (x ∷ l) = ap suc (map-length g l)

taken-length : {A B : Type 0} (g : A → B) (n : ℕ) (l : List A) → length (take n (map g l)) ≡ length (take n l)
taken-length g zero [] = refl
taken-length g zero (x ∷ l) = refl
taken-length g (suc n) [] = refl
taken-length g (suc n) (x ∷ l) = ap suc (taken-length g n l)

mark-shape : (bs : List Block) → first_mark bs ≡ first_mark (map shape_block bs)
unfolding first_mark
mark-shape [] = refl
mark-shape (b ∷ bs) = refl

block-shape : (bs : List Block) (n : ℕ) (p : Block → Bool) → ((b : Block) → p b ≡ p (shape_block b)) → found (get_elem? bs n) p ≡ found (get_elem? (map shape_block bs) n) p
unfolding found
block-shape [] n p h = refl
block-shape (b ∷ bs) zero p h = h b
block-shape (b ∷ bs) (suc n) p h = block-shape bs n p h

-- ---- look-up

unfoldable shape_of : Option Version → Option Version
shape_of none = none
shape_of (some v) = some (shape v)

find-shape : (P : Program) (f w : ℕ) → shape_of (find_version P f w) ≡ find_version (map shape P) f w
unfolding find_version shape_of
find-shape [] f w = refl
find-shape (v ∷ vs) f w = go (eqb v.function f and eqb v.version w) ∙ ap (cond (eqb v.function f and eqb v.version w) (some (shape v))) (find-shape vs f w)
  where
    go : (b : Bool) → shape_of (cond b (some v) (find_version vs f w)) ≡ cond b (some (shape v)) (shape_of (find_version vs f w))
    go true = refl
    go false = refl

found-shape : (P : Program) (f w : ℕ) (p : Version → Bool) → ((v : Version) → p v ≡ p (shape v)) → found (find_version P f w) p ≡ found (find_version (map shape P) f w) p
unfolding found shape_of
found-shape P f w p h = go (find_version P f w) ∙ ap (λ (o : Option Version). found o p) (find-shape P f w)
  where
    go : (o : Option Version) → found o p ≡ found (shape_of o) p
    go none = refl
    go (some v) = h v

-- ---- 6 to 9 and 18

module _ (P : Program) where
  exists-shape : (v : Version) (n : ℕ) (i : Instr) → exists P v n i ≡ exists (map shape P) (shape v) n (blank i)
  unfolding exists blank
  exists-shape v n (LIT d i) = refl
  exists-shape v n (MOVE d a) = refl
  exists-shape v n (USE d a) = refl
  exists-shape v n (DUP d a) = refl
  exists-shape v n (VEC d rs) = refl
  exists-shape v n (LEN d a) = refl
  exists-shape v n (GET d a i) = refl
  exists-shape v n (SET a i e) = refl
  exists-shape v n (ARITH d op a b) = refl
  exists-shape v n (SELECT d c a b) = refl
  exists-shape v n (CAST d a) = refl
  exists-shape v n (NAMED d x) = refl
  exists-shape v n (STORE x a) = refl
  exists-shape v n (PROM d block) = ap (λ (k : ℕ). register_exists v d and ltb n block and ltb block k) (sym (map-length shape_block v.blocks))
  exists-shape v n (FORCE d a) = refl
  exists-shape v n (PEEK d a x) = refl
  exists-shape v n (POKE a x e) = refl
  exists-shape v n (CALL d f w rs) = ap (λ (b : Bool). register_exists v d and all (register_exists v) rs and b) (found-shape P f w (λ c. eqb (length rs) c.parameters) (λ c. refl))
  exists-shape v n (DISPATCH d f mark ret pairs) =
      ap (λ (b : Bool). register_exists v d and all (λ (a : Argument). register_exists v a.register) pairs and b) (any-shape (λ (c : Version). eqb c.function f) (λ (c : Version). eqb c.function f) shape (λ c. refl) P)
  exists-shape v n (SKIP a k) = refl

  fits-shape : (v : Version) (n : ℕ) (i : Instr) → fits P v n i ≡ fits (map shape P) (shape v) n (blank i)
  unfolding fits fresh fits_argument fits_return fits_call blank
  fits-shape v n (LIT d i) = refl
  fits-shape v n (MOVE d a) = refl
  fits-shape v n (USE d a) = refl
  fits-shape v n (DUP d a) = refl
  fits-shape v n (VEC d rs) = refl
  fits-shape v n (LEN d a) = refl
  fits-shape v n (GET d a i) = refl
  fits-shape v n (SET a i e) = refl
  fits-shape v n (ARITH d op a b) = refl
  fits-shape v n (SELECT d c a b) = refl
  fits-shape v n (CAST d a) = refl
  fits-shape v n (NAMED d x) = refl
  fits-shape v n (STORE x a) = refl
  fits-shape v n (PROM d block) = block-shape v.blocks block (λ b. plain v d (promise_kind b.mark)) (λ b. refl)
  fits-shape v n (FORCE d a) = refl
  fits-shape v n (PEEK d a x) = refl
  fits-shape v n (POKE a x e) = refl
  fits-shape v n (CALL d f w rs) = found-shape P f w (λ c. fits_call v n d (given c rs) c.return) (λ c. refl)
  fits-shape v n (DISPATCH d f mark ret pairs) = refl
  fits-shape v n (SKIP a k) = refl

  stays-shape : (v : Version) (i : Instr) → stays_down P v i ≡ stays_down (map shape P) (shape v) (blank i)
  unfolding stays_down blank
  stays-shape v (LIT d i) = refl
  stays-shape v (MOVE d a) = refl
  stays-shape v (USE d a) = refl
  stays-shape v (DUP d a) = refl
  stays-shape v (VEC d rs) = refl
  stays-shape v (LEN d a) = refl
  stays-shape v (GET d a i) = refl
  stays-shape v (SET a i e) = refl
  stays-shape v (ARITH d op a b) = refl
  stays-shape v (SELECT d c a b) = refl
  stays-shape v (CAST d a) = refl
  stays-shape v (NAMED d x) = refl
  stays-shape v (STORE x a) = refl
  stays-shape v (PROM d block) = refl
  stays-shape v (FORCE d a) = refl
  stays-shape v (PEEK d a x) = refl
  stays-shape v (POKE a x e) = refl
  stays-shape v (CALL d f w rs) = found-shape P f w (λ c. leb c.level v.level) (λ c. refl)
  stays-shape v (DISPATCH d f mark ret pairs) = refl
  stays-shape v (SKIP a k) = refl

  reflective-shape : (v : Version) (i : Instr) → reflective P v i ≡ reflective (map shape P) (shape v) (blank i)
  unfolding reflective blank
  reflective-shape v (LIT d i) = refl
  reflective-shape v (MOVE d a) = refl
  reflective-shape v (USE d a) = refl
  reflective-shape v (DUP d a) = refl
  reflective-shape v (VEC d rs) = refl
  reflective-shape v (LEN d a) = refl
  reflective-shape v (GET d a i) = refl
  reflective-shape v (SET a i e) = refl
  reflective-shape v (ARITH d op a b) = refl
  reflective-shape v (SELECT d c a b) = refl
  reflective-shape v (CAST d a) = refl
  reflective-shape v (NAMED d x) = refl
  reflective-shape v (STORE x a) = refl
  reflective-shape v (PROM d block) = refl
  reflective-shape v (FORCE d a) = refl
  reflective-shape v (PEEK d a x) = refl
  reflective-shape v (POKE a x e) = refl
  reflective-shape v (CALL d f w rs) = found-shape P f w (λ c. eqb (first_mark c.blocks) 1) (λ c. ap (λ (m : ℕ). eqb m 1) (mark-shape c.blocks))
  reflective-shape v (DISPATCH d f mark ret pairs) = refl
  reflective-shape v (SKIP a k) = refl

  covered-shape : (v : Version) (b : Block) → covered P v b ≡ covered (map shape P) (shape v) (shape_block b)
  unfolding covered
  covered-shape v b = ap (λ (t : Bool). eqb b.mark 1 || not t) (any-shape (λ (l : Line). reflective P v l.does) (λ (l : Line). reflective (map shape P) (shape v) l.does) shape_line (λ l. reflective-shape v l.does) b.code)

namings-shape : (n : ℕ) (bs : List Block) → namings n bs ≡ namings n (map shape_block bs)
unfolding namings names_block
namings-shape n [] = refl
namings-shape n (b ∷ bs) =
    ap₂ (λ (k m : ℕ). k + m) (count-shape (λ (l : Line). names_block n l.does) (λ (l : Line). names_block n l.does) shape_line (λ l. by-blank (names_block n) (λ d i. refl) l.does) b.code) (namings-shape n bs)

named-shape : (v : Version) (n : ℕ) (b : Block) → block_named v n b ≡ block_named (shape v) n (shape_block b)
unfolding block_named
named-shape v n b = ap (λ (k : ℕ). register_exists v b.result and (eqb n 0 || eqb k 1)) (namings-shape n v.blocks)

-- ---- 10

touch-shape : (P : Program) (i : Instr) → touch P i ≡ touch (map shape P) (blank i)
unfolding touch blank Option-elim shape_of
touch-shape P (LIT d i) = refl
touch-shape P (MOVE d a) = refl
touch-shape P (USE d a) = refl
touch-shape P (DUP d a) = refl
touch-shape P (VEC d rs) = refl
touch-shape P (LEN d a) = refl
touch-shape P (GET d a i) = refl
touch-shape P (SET a i e) = refl
touch-shape P (ARITH d op a b) = refl
touch-shape P (SELECT d c a b) = refl
touch-shape P (CAST d a) = refl
touch-shape P (NAMED d x) = refl
touch-shape P (STORE x a) = refl
touch-shape P (PROM d block) = refl
touch-shape P (FORCE d a) = refl
touch-shape P (PEEK d a x) = refl
touch-shape P (POKE a x e) = refl
touch-shape P (CALL d f w rs) = ap (λ (us : List ℕ). reads rs empties us assigns d ∷ []) (called (find_version P f w) ∙ ap (λ (o : Option Version). Option-elim o [] (λ c. emptied (given c rs))) (find-shape P f w))
  where
    called : (o : Option Version) → Option-elim o [] (λ c. emptied (given c rs)) ≡ Option-elim (shape_of o) [] (λ c. emptied (given c rs))
    called none = refl
    called (some c) = refl
touch-shape P (DISPATCH d f mark ret pairs) = refl
touch-shape P (SKIP a n) = refl

module _ (skip skip' : Instr → Option ℕ) (act act' : Instr → Option Action) (s : (i : Instr) → skip i ≡ skip' (blank i)) (a : (i : Instr) → act i ≡ act' (blank i)) where
  walk-shape : (w : Walk) (ls : List Line) → walk skip act w ls ≡ walk skip' act' w (map shape_line ls)
  unfolding walk
  walk-shape w [] = refl
  walk-shape w (l ∷ ls) = rw (s l.does, a l.does) (walk-shape (past (skip' (blank l.does)) (act' (blank l.does)) w) ls)

  start-shape : (ls : List Line) → start ls ≡ start (map shape_line ls)
  start-shape ls = ap (λ (k : ℕ). record { done = reading []; ways = replicate (k + 1) none }) (sym (taken-length shape_line INSTRUCTIONS ls))

  along-shape : (result : ℕ) (ls : List Line) → along skip act result ls ≡ along skip' act' result (map shape_line ls)
  along-shape result ls = ap (λ (w : Walk). here w then reading (result ∷ [])) (walk-shape (start ls) ls ∙ ap (λ (w : Walk). walk skip' act' w (map shape_line ls)) (start-shape ls))

module _ (P : Program) where
  actions-shape : (n : ℕ) (bs : List Block) → actions P n bs ≡ actions (map shape P) n (map shape_block bs)
  unfolding actions
  actions-shape n [] = refl
  actions-shape n (b ∷ bs) =
      ap (λ (above : List (Option Action)). along (λ i. skip_of (touch P i)) (λ i. action_of (enter n above) (touch P i)) b.result b.code ∷ above) (actions-shape (n + 1) bs)
      ∙ ap (λ (x : Option Action). x ∷ actions (map shape P) (n + 1) (map shape_block bs)) (along-shape _ _ _ _ (λ i. ap skip_of (touch-shape P i)) (λ i. ap (action_of (enter n (actions (map shape P) (n + 1) (map shape_block bs)))) (touch-shape P i)) b.result b.code)

  -- what its body does
  pub body-shape : (v : Version) → body_action P v ≡ body_action (map shape P) (shape v)
  body-shape v = ap (λ (done : List (Option Action)). get_or done 0 none) (actions-shape 0 v.blocks)

  flows-shape : (v : Version) → flows P v ≡ flows (map shape P) (shape v)
  unfolding flows
  flows-shape v = ap (λ (done : Option Action). found done (λ a. below v.parameters a.R)) (body-shape v)

-- ---- the questions

-- that none fails
unfoldable pub quiet : Found → Bool
quiet None = true
quiet (Some p) = false

-- a question, and one to the shapes, that say the same
pub record Same (q q' : Question) : Type 0 where
  pub version : (v : Version) → q.of_version v ≡ q'.of_version (shape v)
  pub block : (v : Version) (n : ℕ) (b : Block) → q.of_block v n b ≡ q'.of_block (shape v) n (shape_block b)
  pub instr : (v : Version) (n : ℕ) (i : Instr) → q.of_instr v n i ≡ q'.of_instr (shape v) n (blank i)

either-quiet : (b c : Bool) (x y : Found) (p p' : ℕ) → b ≡ c → quiet x ≡ quiet y → quiet (cond b x (Some p)) ≡ quiet (cond c y (Some p'))
unfolding quiet
either-quiet true c x y p p' e h = rw (sym e) h
either-quiet false c x y p p' e h = rw (sym e) refl

module _ (q q' : Question) (s : Same q q') where
  line_quiet : (v : Version) (n : ℕ) (ls : List Line) (x y : Found) → quiet x ≡ quiet y → quiet (first_line q v n ls x) ≡ quiet (first_line q' (shape v) n (map shape_line ls) y)
  unfolding first_line
  line_quiet v n [] x y h = h
  line_quiet v n (l ∷ ls) x y h = either-quiet _ _ _ _ _ _ (s.instr v n l.does) (line_quiet v n ls x y h)

  block-quiet : (v : Version) (n : ℕ) (bs : List Block) (x y : Found) → quiet x ≡ quiet y → quiet (first_block q v n bs x) ≡ quiet (first_block q' (shape v) n (map shape_block bs) y)
  unfolding first_block
  block-quiet v n [] x y h = h
  block-quiet v n (b ∷ bs) x y h = either-quiet _ _ _ _ _ _ (s.block v n b) (line_quiet v n b.code _ _ (block-quiet v (n + 1) bs x y h))

  first-quiet : (P : Program) → quiet (first q P) ≡ quiet (first q' (map shape P))
  unfolding first
  first-quiet [] = refl
  first-quiet (v ∷ vs) = either-quiet _ _ _ _ _ _ (s.version v) (block-quiet v 0 v.blocks _ _ (first-quiet vs))

-- THE LAWS: each question says the same of a program and of its shape
module _ (X : Program) where
  pub same-6 : Same question6 question6
  unfolding version_types types_allowed
  same-6 = record { version = λ v. refl; block = λ v n b. refl; instr = λ v n i. by-blank types_allowed (λ d z. refl) i }

  pub same-7 : Same (question7 X) (question7 (map shape X))
  same-7 = record { version = λ v. refl; block = named-shape; instr = exists-shape X }

  pub same-8 : Same (question8 X) (question8 (map shape X))
  unfolding fits_result
  same-8 = record { version = λ v. refl; block = λ v n b. refl; instr = fits-shape X }

  pub same-18 : Same (question18 X) (question18 (map shape X))
  same-18 = record { version = λ v. refl; block = λ v n b. refl; instr = λ v n i. stays-shape X v i }

  pub same-9 : Same (question9 X) (question9 (map shape X))
  same-9 = record { version = λ v. refl; block = λ v n b. covered-shape X v b; instr = λ v n i. refl }

  pub same-10 : Same (question10 X) (question10 (map shape X))
  same-10 = record { version = flows-shape X; block = λ v n b. refl; instr = λ v n i. refl }

-- of two programs of the same shape, both pass a question or none does
module _ (P Q : Program) (e : map shape P ≡ map shape Q) where
  both-quiet : (k : Program → Question) → ((X : Program) → Same (k X) (k (map shape X))) → quiet (first (k P) P) ≡ quiet (first (k Q) Q)
  both-quiet k s = first-quiet (k P) (k (map shape P)) (s P) P ∙ ap (λ (X : Program). quiet (first (k X) X)) e ∙ sym (first-quiet (k Q) (k (map shape Q)) (s Q) Q)

  pub shape-6 : quiet (first question6 P) ≡ quiet (first question6 Q)
  shape-6 = both-quiet (λ X. question6) same-6

  pub shape-7 : quiet (first (question7 P) P) ≡ quiet (first (question7 Q) Q)
  shape-7 = both-quiet question7 same-7

  pub shape-8 : quiet (first (question8 P) P) ≡ quiet (first (question8 Q) Q)
  shape-8 = both-quiet question8 same-8

  pub shape-18 : quiet (first (question18 P) P) ≡ quiet (first (question18 Q) Q)
  shape-18 = both-quiet question18 same-18

  pub shape-9 : quiet (first (question9 P) P) ≡ quiet (first (question9 Q) Q)
  shape-9 = both-quiet question9 same-9

  pub shape-10 : quiet (first (question10 P) P) ≡ quiet (first (question10 Q) Q)
  shape-10 = both-quiet question10 same-10
