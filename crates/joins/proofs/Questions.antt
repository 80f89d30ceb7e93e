-- Questions 6 to 10 and 18 under a program, and under one in which it stands renumbered.
use mathlib.Core.Path.{◌≡◌, refl, sym, ap, ◌∙◌, subst}
use mathlib.Core.List.{List, [], ◌∷◌, map}
use mathlib.Core.Option.{Option, none, some, Option-elim}
use mathlib.Core.Bool.{Bool}
use Prim.Native.Nat.{ℕ, zero, suc, ◌+◌}
use native.Mathlib.Omega.{arith}
use lib.ListN.{length, length-map, get_elem?, replicate, take}
use lib.Dec.{eqb, leb}
use Rattle.layout.specs.Bounds.{INSTRUCTIONS}
use Rattle.layout.specs.Tests.{any, count, found}
use Rattle.program.specs.Program.{Instr, LIT, MOVE, USE, DUP, VEC, LEN, GET, SET, ARITH, SELECT, CAST, NAMED, STORE, PROM, FORCE, PEEK, POKE, CALL, DISPATCH, SKIP, Line, Block, Version, Program, find_version, mark_of, first_mark, given}
use Rattle.program.specs.Search.{Question}
use Rattle.program.specs.Questions.{exists, names_block, namings, block_named, question7}
use Rattle.program.proofs.Held.{Held, Helds}
use Rattle.rules.specs.Fits.{fits, fits_result, fits_call, fits_argument, fits_return, fresh, plain, promise_kind}
use Rattle.rules.specs.Effects.{reflective, covered}
use Rattle.rules.specs.Actions.{Action, Walk, reading, Touch, touch, action_of, skip_of, here, past, walk, start, along, enter, actions, ◌then◌, emptied}
use Rattle.rules.specs.Flows.{flows, question10}
use Rattle.rules.specs.Questions.{version_types, types_allowed, stays_down, question6, question8, question18, question9}
use Rattle.joins.specs.Shifted.{shift_instr, shift_line, shift_block, shift_version, shift_program}
use Rattle.joins.specs.Alongside.{shift_found, Carries, Names, NamesIn}

-- ---- look-ups in a list of images

pub get-map : {A B : Type 0} (f : A → B) (xs : List A) (i : ℕ) (y : B) → get_elem? (map f xs) i ≡ some y → (x : A) × (get_elem? xs i ≡ some x) × (y ≡ f x)
get-map f [] i y e = let z : ◌≡◌ {A = ℕ} 0 1 = cc in absurd (omega arith)
get-map f (x ∷ xs) zero y e = let z : f x ≡ y = cc in (x, refl, sym z)
get-map f (x ∷ xs) (suc i) y e = get-map f xs i y e

taken-length : {A B : Type 0} (g : A → B) (n : ℕ) (l : List A) → length (take n (map g l)) ≡ length (take n l)
taken-length g zero [] = refl
taken-length g zero (x ∷ l) = refl
taken-length g (suc n) [] = refl
taken-length g (suc n) (x ∷ l) = ap suc (taken-length g n l)

-- ---- what does not change

module _ (k o : ℕ) where
  types-shifted : (i : Instr) → types_allowed (shift_instr k i) ≡ types_allowed i
  unfolding types_allowed shift_instr
  types-shifted (LIT d i) = refl
  types-shifted (MOVE d a) = refl
  types-shifted (USE d a) = refl
  types-shifted (DUP d a) = refl
  types-shifted (VEC d rs) = refl
  types-shifted (LEN d a) = refl
  types-shifted (GET d a i) = refl
  types-shifted (SET a i e) = refl
  types-shifted (ARITH d op a b) = refl
  types-shifted (SELECT d c a b) = refl
  types-shifted (CAST d a) = refl
  types-shifted (NAMED d x) = refl
  types-shifted (STORE x a) = refl
  types-shifted (PROM d block) = refl
  types-shifted (FORCE d a) = refl
  types-shifted (PEEK d a x) = refl
  types-shifted (POKE a x e) = refl
  types-shifted (CALL d f w rs) = refl
  types-shifted (DISPATCH d f mark ret pairs) = refl
  types-shifted (SKIP a m) = refl

  names-shifted : (m : ℕ) (i : Instr) → names_block m (shift_instr k i) ≡ names_block m i
  unfolding names_block shift_instr
  names-shifted m (LIT d i) = refl
  names-shifted m (MOVE d a) = refl
  names-shifted m (USE d a) = refl
  names-shifted m (DUP d a) = refl
  names-shifted m (VEC d rs) = refl
  names-shifted m (LEN d a) = refl
  names-shifted m (GET d a i) = refl
  names-shifted m (SET a i e) = refl
  names-shifted m (ARITH d op a b) = refl
  names-shifted m (SELECT d c a b) = refl
  names-shifted m (CAST d a) = refl
  names-shifted m (NAMED d x) = refl
  names-shifted m (STORE x a) = refl
  names-shifted m (PROM d block) = refl
  names-shifted m (FORCE d a) = refl
  names-shifted m (PEEK d a x) = refl
  names-shifted m (POKE a x e) = refl
  names-shifted m (CALL d f w rs) = refl
  names-shifted m (DISPATCH d f mark ret pairs) = refl
  names-shifted m (SKIP a i) = refl

  count-shifted : (m : ℕ) (ls : List Line) → count (λ (l : Line). names_block m l.does) (map (shift_line k o) ls) ≡ count (λ (l : Line). names_block m l.does) ls
  unfolding count
  count-shifted m [] = refl
  count-shifted m (l ∷ ls) = rw (names-shifted m l.does, count-shifted m ls) refl

  namings-shifted : (m : ℕ) (bs : List Block) → namings m (map (shift_block k o) bs) ≡ namings m bs
  unfolding namings
  namings-shifted m [] = refl
  namings-shifted m (b ∷ bs) = rw (count-shifted m b.code, namings-shifted m bs) refl

  first-mark : (bs : List Block) → first_mark (map (shift_block k o) bs) ≡ first_mark bs
  unfolding first_mark
  first-mark [] = refl
  first-mark (b ∷ bs) = refl

  promise-shifted : (v : Version) (d m : ℕ) (bs : List Block) → found (get_elem? (map (shift_block k o) bs) m) (λ (b : Block). plain v d (promise_kind b.mark)) ≡ found (get_elem? bs m) (λ (b : Block). plain v d (promise_kind b.mark))
  unfolding found
  promise-shifted v d m [] = refl
  promise-shifted v d zero (b ∷ bs) = refl
  promise-shifted v d (suc m) (b ∷ bs) = promise-shifted v d m bs

-- a test of what was found that does not look at what was renumbered
found-shifted : (k o : ℕ) (p : Version → Bool) → ((c : Version) → p (shift_version k o c) ≡ p c) → (x : Option Version) → found (shift_found k o x) p ≡ found x p
unfolding found shift_found
found-shifted k o p h none = refl
found-shifted k o p h (some c) = h c

-- ---- the questions

module _ (k o n : ℕ) (P J : Program) (C : Carries k o n P J) where
  abbrev mv : Version → Version
  mv v = shift_version k o v

  exists-shifted : (v : Version) (m : ℕ) (i : Instr) → Names n i → exists J (mv v) m (shift_instr k i) ≡ exists P v m i
  unfolding exists shift_instr Names
  exists-shifted v m (LIT d i) c = refl
  exists-shifted v m (MOVE d a) c = refl
  exists-shifted v m (USE d a) c = refl
  exists-shifted v m (DUP d a) c = refl
  exists-shifted v m (VEC d rs) c = refl
  exists-shifted v m (LEN d a) c = refl
  exists-shifted v m (GET d a i) c = refl
  exists-shifted v m (SET a i e) c = refl
  exists-shifted v m (ARITH d op a b) c = refl
  exists-shifted v m (SELECT d x a b) c = refl
  exists-shifted v m (CAST d a) c = refl
  exists-shifted v m (NAMED d x) c = refl
  exists-shifted v m (STORE x a) c = refl
  exists-shifted v m (PROM d block) c = rw (length-map v.blocks (shift_block k o)) refl
  exists-shifted v m (FORCE d a) c = refl
  exists-shifted v m (PEEK d a x) c = refl
  exists-shifted v m (POKE a x e) c = refl
  exists-shifted v m (CALL d f w rs) c = rw (C.look f w c, found-shifted k o (λ (x : Version). eqb (length rs) x.parameters) (λ x. refl) (find_version P f w)) refl
  exists-shifted v m (DISPATCH d f mark ret pairs) c = rw (C.has f c) refl
  exists-shifted v m (SKIP a i) c = refl

  fits-shifted : (v : Version) (m : ℕ) (i : Instr) → Names n i → fits J (mv v) m (shift_instr k i) ≡ fits P v m i
  unfolding fits shift_instr Names fits_call fits_argument fits_return fresh
  fits-shifted v m (LIT d i) c = refl
  fits-shifted v m (MOVE d a) c = refl
  fits-shifted v m (USE d a) c = refl
  fits-shifted v m (DUP d a) c = refl
  fits-shifted v m (VEC d rs) c = refl
  fits-shifted v m (LEN d a) c = refl
  fits-shifted v m (GET d a i) c = refl
  fits-shifted v m (SET a i e) c = refl
  fits-shifted v m (ARITH d op a b) c = refl
  fits-shifted v m (SELECT d x a b) c = refl
  fits-shifted v m (CAST d a) c = refl
  fits-shifted v m (NAMED d x) c = refl
  fits-shifted v m (STORE x a) c = refl
  fits-shifted v m (PROM d block) c = promise-shifted k o v d block v.blocks
  fits-shifted v m (FORCE d a) c = refl
  fits-shifted v m (PEEK d a x) c = refl
  fits-shifted v m (POKE a x e) c = refl
  fits-shifted v m (CALL d f w rs) c = rw (C.look f w c, found-shifted k o (λ (x : Version). fits_call v m d (given x rs) x.return) (λ x. refl) (find_version P f w)) refl
  fits-shifted v m (DISPATCH d f mark ret pairs) c = refl
  fits-shifted v m (SKIP a i) c = refl

  stays-shifted : (v : Version) (i : Instr) → Names n i → stays_down J (mv v) (shift_instr k i) ≡ stays_down P v i
  unfolding stays_down shift_instr Names
  stays-shifted v (LIT d i) c = refl
  stays-shifted v (MOVE d a) c = refl
  stays-shifted v (USE d a) c = refl
  stays-shifted v (DUP d a) c = refl
  stays-shifted v (VEC d rs) c = refl
  stays-shifted v (LEN d a) c = refl
  stays-shifted v (GET d a i) c = refl
  stays-shifted v (SET a i e) c = refl
  stays-shifted v (ARITH d op a b) c = refl
  stays-shifted v (SELECT d x a b) c = refl
  stays-shifted v (CAST d a) c = refl
  stays-shifted v (NAMED d x) c = refl
  stays-shifted v (STORE x a) c = refl
  stays-shifted v (PROM d block) c = refl
  stays-shifted v (FORCE d a) c = refl
  stays-shifted v (PEEK d a x) c = refl
  stays-shifted v (POKE a x e) c = refl
  stays-shifted v (CALL d f w rs) c = rw (C.look f w c, found-shifted k o (λ (x : Version). leb x.level v.level) (λ x. refl) (find_version P f w)) refl
  stays-shifted v (DISPATCH d f mark ret pairs) c = refl
  stays-shifted v (SKIP a m) c = refl

  reflective-shifted : (v : Version) (i : Instr) → Names n i → reflective J (mv v) (shift_instr k i) ≡ reflective P v i
  unfolding reflective shift_instr Names
  reflective-shifted v (LIT d i) c = refl
  reflective-shifted v (MOVE d a) c = refl
  reflective-shifted v (USE d a) c = refl
  reflective-shifted v (DUP d a) c = refl
  reflective-shifted v (VEC d rs) c = refl
  reflective-shifted v (LEN d a) c = refl
  reflective-shifted v (GET d a i) c = refl
  reflective-shifted v (SET a i e) c = refl
  reflective-shifted v (ARITH d op a b) c = refl
  reflective-shifted v (SELECT d x a b) c = refl
  reflective-shifted v (CAST d a) c = refl
  reflective-shifted v (NAMED d x) c = refl
  reflective-shifted v (STORE x a) c = refl
  reflective-shifted v (PROM d block) c = refl
  reflective-shifted v (FORCE d a) c = refl
  reflective-shifted v (PEEK d a x) c = refl
  reflective-shifted v (POKE a x e) c = refl
  reflective-shifted v (CALL d f w rs) c = rw (C.look f w c, found-shifted k o (λ (x : Version). eqb (mark_of x) 1) (λ x. ap (λ (y : ℕ). eqb y 1) (first-mark k o x.blocks)) (find_version P f w)) refl
  reflective-shifted v (DISPATCH d f mark ret pairs) c = refl
  reflective-shifted v (SKIP a m) c = refl

  any-shifted : (v : Version) (ls : List Line) → ((i : ℕ) (l : Line) → get_elem? ls i ≡ some l → Names n l.does) → any (λ (l : Line). reflective J (mv v) l.does) (map (shift_line k o) ls) ≡ any (λ (l : Line). reflective P v l.does) ls
  unfolding any
  any-shifted v [] c = refl
  any-shifted v (l ∷ ls) c = rw (reflective-shifted v l.does (c 0 l refl), any-shifted v ls (λ i. c (suc i))) refl

  touch-shifted : (i : Instr) → Names n i → touch J (shift_instr k i) ≡ touch P i
  unfolding touch shift_instr Names shift_found Option-elim
  touch-shifted (LIT d i) c = refl
  touch-shifted (MOVE d a) c = refl
  touch-shifted (USE d a) c = refl
  touch-shifted (DUP d a) c = refl
  touch-shifted (VEC d rs) c = refl
  touch-shifted (LEN d a) c = refl
  touch-shifted (GET d a i) c = refl
  touch-shifted (SET a i e) c = refl
  touch-shifted (ARITH d op a b) c = refl
  touch-shifted (SELECT d x a b) c = refl
  touch-shifted (CAST d a) c = refl
  touch-shifted (NAMED d x) c = refl
  touch-shifted (STORE x a) c = refl
  touch-shifted (PROM d block) c = refl
  touch-shifted (FORCE d a) c = refl
  touch-shifted (PEEK d a x) c = refl
  touch-shifted (POKE a x e) c = refl
  touch-shifted (CALL d f w rs) c = rw (C.look f w c, emptied-shifted (find_version P f w)) refl
    where
      emptied-shifted : (x : Option Version) → Option-elim (shift_found k o x) [] (λ (y : Version). emptied (given y rs)) ≡ Option-elim x [] (λ (y : Version). emptied (given y rs))
      emptied-shifted none = refl
      emptied-shifted (some y) = refl
  touch-shifted (DISPATCH d f mark ret pairs) c = refl
  touch-shifted (SKIP a m) c = refl

  walk-shifted : (en : ℕ → Option Action) (w : Walk) (ls : List Line) → ((i : ℕ) (l : Line) → get_elem? ls i ≡ some l → Names n l.does)
      → walk (λ i. skip_of (touch J i)) (λ i. action_of en (touch J i)) w (map (shift_line k o) ls) ≡ walk (λ i. skip_of (touch P i)) (λ i. action_of en (touch P i)) w ls
  unfolding walk
  walk-shifted en w [] c = refl
  walk-shifted en w (l ∷ ls) c =
      ap (λ (x : Touch). walk (λ i. skip_of (touch J i)) (λ i. action_of en (touch J i)) (past (skip_of x) (action_of en x) w) (map (shift_line k o) ls)) (touch-shifted l.does (c 0 l refl))
      ∙ walk-shifted en (past (skip_of (touch P l.does)) (action_of en (touch P l.does)) w) ls (λ i. c (suc i))

  start-shifted : (ls : List Line) → start (map (shift_line k o) ls) ≡ start ls
  start-shifted ls = ap (λ (m : ℕ). record { done = reading []; ways = replicate (m + 1) none }) (taken-length (shift_line k o) INSTRUCTIONS ls)

  along-shifted : (en : ℕ → Option Action) (result : ℕ) (ls : List Line) → ((i : ℕ) (l : Line) → get_elem? ls i ≡ some l → Names n l.does)
      → along (λ i. skip_of (touch J i)) (λ i. action_of en (touch J i)) result (map (shift_line k o) ls) ≡ along (λ i. skip_of (touch P i)) (λ i. action_of en (touch P i)) result ls
  along-shifted en result ls c =
      ap (λ (w : Walk). here w then reading (result ∷ []))
      (ap (λ (w : Walk). walk (λ i. skip_of (touch J i)) (λ i. action_of en (touch J i)) w (map (shift_line k o) ls)) (start-shifted ls) ∙ walk-shifted en (start ls) ls c)

  actions-shifted : (m : ℕ) (bs : List Block) → ((b : ℕ) (B : Block) (i : ℕ) (l : Line) → get_elem? bs b ≡ some B → get_elem? B.code i ≡ some l → Names n l.does)
      → actions J m (map (shift_block k o) bs) ≡ actions P m bs
  unfolding actions
  actions-shifted m [] c = refl
  actions-shifted m (b ∷ bs) c =
      ap (λ (above : List (Option Action)). along (λ i. skip_of (touch J i)) (λ i. action_of (enter m above) (touch J i)) b.result (map (shift_line k o) b.code) ∷ above) (actions-shifted (m + 1) bs (λ i. c (suc i)))
      ∙ ap (λ (x : Option Action). x ∷ actions P (m + 1) bs) (along-shifted (enter m (actions P (m + 1) bs)) b.result b.code (λ i l. c 0 b i l refl))

  flows-shifted : (v : Version) → NamesIn n v → flows J (mv v) ≡ flows P v
  unfolding flows
  flows-shifted v c = rw (actions-shifted 0 v.blocks c) refl

  covered-shifted : (v : Version) (b : Block) → ((i : ℕ) (l : Line) → get_elem? b.code i ≡ some l → Names n l.does) → covered J (mv v) (shift_block k o b) ≡ covered P v b
  unfolding covered
  covered-shifted v b c = rw (any-shifted v b.code c) refl

  named-shifted : (v : Version) (m : ℕ) (b : Block) → block_named (mv v) m (shift_block k o b) ≡ block_named v m b
  unfolding block_named
  named-shifted v m b = rw (namings-shifted k o m v.blocks) refl

  -- a question that finds the same
  pub record Asks (q q' : Question) : Type 0 where
    pub version : (v : Version) → NamesIn n v → q'.of_version (mv v) ≡ q.of_version v
    pub block : (v : Version) (m : ℕ) (b : Block) → ((i : ℕ) (l : Line) → get_elem? b.code i ≡ some l → Names n l.does) → q'.of_block (mv v) m (shift_block k o b) ≡ q.of_block v m b
    pub instr : (v : Version) (m : ℕ) (i : Instr) → Names n i → q'.of_instr (mv v) m (shift_instr k i) ≡ q.of_instr v m i

  held-shifted : (q q' : Question) → Asks q q' → (v : Version) → NamesIn n v → Held q v → Held q' (mv v)
  held-shifted q q' a v c h = record {
    of_version = a.version v c ∙ h.of_version;
    of_block = λ m y e. let g = get-map (shift_block k o) v.blocks m y e in rw g.2 (a.block v m g.0 (λ i l. c m g.0 i l g.1) ∙ h.of_block m g.0 g.1);
    of_instr = λ m y i l e e'.
        let g = get-map (shift_block k o) v.blocks m y e in
        let g' = get-map (shift_line k o) g.0.code i l (subst (λ (z : Block). get_elem? z.code i ≡ some l) g.2 e') in
        rw g'.2 (a.instr v m g'.0.does (c m g.0 i g'.0 g.1 g'.1) ∙ h.of_instr m g.0 i g'.0 g.1 g'.1);
  }

  pub asks6 : Asks question6 question6
  unfolding version_types
  asks6 = record { version = λ v c. refl; block = λ v m b c. refl; instr = λ v m i c. types-shifted k o i }

  pub asks7 : Asks (question7 P) (question7 J)
  asks7 = record { version = λ v c. refl; block = λ v m b c. named-shifted v m b; instr = exists-shifted }

  pub asks8 : Asks (question8 P) (question8 J)
  unfolding fits_result
  asks8 = record { version = λ v c. refl; block = λ v m b c. refl; instr = fits-shifted }

  pub asks18 : Asks (question18 P) (question18 J)
  asks18 = record { version = λ v c. refl; block = λ v m b c. refl; instr = λ v m i c. stays-shifted v i c }

  pub asks9 : Asks (question9 P) (question9 J)
  asks9 = record { version = λ v c. refl; block = λ v m b c. covered-shifted v b c; instr = λ v m i c. refl }

  pub asks10 : Asks (question10 P) (question10 J)
  asks10 = record { version = flows-shifted; block = λ v m b c. refl; instr = λ v m i c. refl }

  -- THE LAW of the questions: what P's versions passed, they pass renumbered in J
  pub helds-shifted : (q q' : Question) → Asks q q' → (vs : Program) → ((v : Version) → Held (question7 P) v → NamesIn n v) → Helds (question7 P) vs → Helds q vs → Helds q' (shift_program k o vs)
  unfolding Helds
  helds-shifted q q' a [] c h7 h = tt
  helds-shifted q q' a (v ∷ vs) c h7 h = (held-shifted q q' a v (c v h7.0) h.0, helds-shifted q q' a vs c h7.1 h.1)
