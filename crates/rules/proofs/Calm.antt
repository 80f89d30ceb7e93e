-- Promise blocks of a version that question 8 passed empty nothing.
use mathlib.Core.Path.{◌≡◌, refl, ap, ◌∙◌}
use mathlib.Core.Logic.{◌⊎◌, inl, inr}
use mathlib.Core.List.{List, [], ◌∷◌}
use mathlib.Core.Option.{Option, none, some, Option-elim}
use mathlib.Core.Bool.{Bool, true, false, cond, not, ◌||◌, false≢true}
use Prim.Native.Nat.{ℕ, zero, suc, ◌+◌, ◌≤◌, ◌<◌}
use native.Mathlib.Omega.{arith}
use lib.ListN.{length, take, drop, get_or, get_elem?, set, replicate}
use lib.Seq.{get_or-drop}
use lib.Dec.{ltb, eqb}
use borrow.Author.Tests.{ltb-true, eqb-true}
use Rattle.sets.specs.Sets.{has, those}
use Rattle.layout.specs.Bounds.{INSTRUCTIONS}
use Rattle.layout.specs.Tests.{◌and◌, any, all, found}
use Rattle.layout.proofs.Bools.{and_both}
use Rattle.layout.proofs.Lists.{get_none}
use Rattle.program.specs.Program.{Argument, Instr, LIT, MOVE, USE, DUP, VEC, LEN, GET, SET, ARITH, SELECT, CAST, NAMED, STORE, PROM, FORCE, PEEK, POKE, CALL, DISPATCH, SKIP, Line, Block, Version, Program, find_version, given}
use Rattle.program.proofs.Held.{Held}
use Rattle.rules.specs.Types.{is_owned}
use Rattle.rules.specs.Fits.{empties as is_emptying, fits_argument, fits_return, fits_call, fits}
use Rattle.rules.specs.Questions.{question8}
use Rattle.rules.specs.Actions.{Action, ◌then◌, reading, Touch, reads◌empties◌assigns◌, enters◌assigns◌, reads◌skips◌, emptied, touch, action_of, either, Walk, join, here, past, walk, start, along}
use Rattle.rules.specs.Walks.{block_action, entered, acts, skips_of, freed}
use Rattle.rules.proofs.Follows.{then-parts, or-either, or-neither, or-none, has-empty, has-union}
use Rattle.rules.proofs.Touches.{touched-by, promises-by}
use Rattle.rules.proofs.Ways.{some_is}
use Rattle.rules.proofs.Walked.{walked_at, walked-missing}

-- ---- instructions

-- a call that is not an emptying one empties nothing
not-emptying : (call : List Argument) → is_emptying call ≡ false → emptied call ≡ []
unfolding any emptied
not-emptying [] e = refl
not-emptying (a ∷ call) e =
    let p = or-neither (is_owned a.type) (any (λ (b : Argument). is_owned b.type) call) e in
    rw p.0 (not-emptying call p.1)

not-not : (b : Bool) → not b ≡ true → b ≡ false
not-not true e = absurd (false≢true e)
not-not false e = refl

-- what stands in block 0 alone does not stand in a promise block
not_body : (n : ℕ) → 0 < n → eqb n 0 ≡ true → ⊥
not_body n h e = let z : n ≡ 0 = eqb-true n 0 e in absurd (omega arith)

module _ (P : Program) (v : Version) (n : ℕ) (above : 0 < n) where
  call-still : (d : ℕ) (call : List Argument) (ret : ℕ) → fits_call v n d call ret ≡ true → emptied call ≡ []
  unfolding fits_call
  call-still d call ret e =
      let p = and_both (all (fits_argument v call) call) ((eqb n 0 || not (is_emptying call)) and fits_return v d ret) e in
      let q = and_both (eqb n 0 || not (is_emptying call)) (fits_return v d ret) p.1 in
      go (or-either (eqb n 0) (not (is_emptying call)) q.0)
    where
      go : (eqb n 0 ≡ true) ⊎ (not (is_emptying call) ≡ true) → emptied call ≡ []
      go (inl x) = absurd (not_body n above x)
      go (inr x) = not-emptying call (not-not (is_emptying call) x)

  instr-still : (i : Instr) → fits P v n i ≡ true → freed (touch P i) ≡ []
  unfolding fits touch freed found Option-elim
  instr-still (LIT d i) e = refl
  instr-still (MOVE d a) e = refl
  instr-still (USE d a) e = absurd (not_body n above (and_both (eqb n 0) _ e).0)
  instr-still (DUP d a) e = refl
  instr-still (VEC d rs) e = refl
  instr-still (LEN d a) e = refl
  instr-still (GET d a i) e = refl
  instr-still (SET a i x) e = refl
  instr-still (ARITH d op a b) e = refl
  instr-still (SELECT d c a b) e = refl
  instr-still (CAST d a) e = refl
  instr-still (NAMED d x) e = refl
  instr-still (STORE x a) e = refl
  instr-still (PROM d block) e = refl
  instr-still (FORCE d a) e = refl
  instr-still (PEEK d a x) e = refl
  instr-still (POKE a x y) e = refl
  instr-still (CALL d f w rs) e = go (find_version P f w) e
    where
      go : (o : Option Version) → found o (λ c. fits_call v n d (given c rs) c.return) ≡ true → Option-elim o [] (λ c. emptied (given c rs)) ≡ []
      go none g = refl
      go (some c) g = call-still d (given c rs) c.return g
  instr-still (DISPATCH d f mark ret pairs) e = call-still d pairs ret e
  instr-still (SKIP a k) e = refl

-- ---- actions that empty nothing, where they are allowed

abbrev pub Calm : Option Action → Type 0
Calm o = (a : Action) → o ≡ some a → (r : ℕ) → has a.U r ≡ false

calm-none : Calm none
calm-none a e = let z : ◌≡◌ {A = ℕ} 0 1 = cc in absurd (omega arith)

calm-some : (x : Action) → ((r : ℕ) → has x.U r ≡ false) → Calm (some x)
calm-some x h a e r = let y : x ≡ a = some_is e in rw (← y) (h r)

calm-reading : (rs : List ℕ) → Calm (reading rs)
calm-reading rs = calm-some _ (has-empty 16)

calm-then : (x y : Option Action) → Calm x → Calm y → Calm (x then y)
calm-then x y f g c e r =
    let p = then-parts x y c e in
    p.follows.is-U r ∙ rw (f p.first p.is-first r, g p.second p.is-second r) refl

calm-join : (x y : Option Action) → Calm x → Calm y → Calm (join x y)
unfolding join either
calm-join none y f g = calm-none
calm-join (some a) none f g = f
calm-join (some a) (some b) f g = calm-some _ (λ r. has-union a.U b.U r ∙ or-none (f a refl r) (g b refl r))

calm-if : (t : Bool) (x : Option Action) → Calm x → Calm (cond t x none)
calm-if true x h = h
calm-if false x h = calm-none

calm-skip : (f : ℕ → Option Action) (rs : List ℕ) (n : ℕ) → Calm (action_of f (reads rs skips n))
unfolding action_of
calm-skip f rs n = calm-reading rs

calm-act : (f : ℕ → Option Action) (t : Touch) → ((e : ℕ) → Calm (f e)) → freed t ≡ [] → Calm (action_of f t)
unfolding freed those
calm-act f (reads rs empties us assigns ds) h q a e r = (touched-by f rs us ds a e).is-U r ∙ ap (λ (l : List ℕ). has (those 16 l) r) q ∙ has-empty 16 r
calm-act f (enters block assigns ds) h q a e r = let p = promises-by f block ds a e in p.is-U r ∙ h block p.inner p.is-inner r
calm-act f (reads rs skips n) h q a e r = calm-skip f rs n a e r

-- ---- walks

record CalmWalk (w : Walk) : Type 0 where
  pub done : Calm w.done
  pub ways : (n : ℕ) → Calm (get_or w.ways n none)

pub set-each : {A : Type 0} (T : A → Type 0) (d : A) (l : List A) (n m : ℕ) (x : A) → T x → T (get_or l m d) → T (get_or (set l n x) m d)
set-each T d [] n m x h g = g
set-each T d (y ∷ l) zero zero x h g = h
set-each T d (y ∷ l) zero (suc m) x h g = g
set-each T d (y ∷ l) (suc n) zero x h g = g
set-each T d (y ∷ l) (suc n) (suc m) x h g = set-each T d l n m x h g

calm-here : (w : Walk) → CalmWalk w → Calm (here w)
unfolding here
calm-here w h = calm-join w.done (get_or w.ways 0 none) h.done (h.ways 0)

calm-later : (w : Walk) → CalmWalk w → (n : ℕ) → Calm (get_or (drop 1 w.ways) n none)
calm-later w h n = rw (get_or-drop 1 w.ways n none) (h.ways (1 + n))

calm-past : (k : Option ℕ) (b : Option Action) (w : Walk) → CalmWalk w → Calm b → CalmWalk (past k b w)
unfolding past
calm-past none b w h g = record { done = calm-then (here w) b (calm-here w h) g; ways = calm-later w h }
calm-past (some n) b w h g =
    let a = calm-then (here w) b (calm-here w h) g in
    record {
      done = calm-if (ltb n (length (drop 1 w.ways))) (here w then b) a;
      ways = λ m. set-each Calm none (drop 1 w.ways) n m _ (calm-join (here w then b) (get_or (drop 1 w.ways) n none) a (calm-later w h n)) (calm-later w h m);
    }

calm_walk : (skip : Instr → Option ℕ) (act : Instr → Option Action) (w : Walk) (ls : List Line) → CalmWalk w → ((i : ℕ) (l : Line) → get_elem? ls i ≡ some l → Calm (act l.does)) → CalmWalk (walk skip act w ls)
unfolding walk
calm_walk skip act w [] h g = h
calm_walk skip act w (l ∷ ls) h g = calm_walk skip act (past (skip l.does) (act l.does) w) ls (calm-past (skip l.does) (act l.does) w h (g 0 l refl)) (λ i m e. g (suc i) m e)

pub blank : (k n : ℕ) → get_or {A = Option Action} (replicate k none) n none ≡ none
blank zero n = refl
blank (suc k) zero = refl
blank (suc k) (suc n) = blank k n

calm-start : (ls : List Line) → CalmWalk (start ls)
calm-start ls = record { done = calm-reading []; ways = λ n. rw (blank (length (take INSTRUCTIONS ls) + 1) n) calm-none }

calm-along : (skip : Instr → Option ℕ) (act : Instr → Option Action) (result : ℕ) (ls : List Line) → ((i : ℕ) (l : Line) → get_elem? ls i ≡ some l → Calm (act l.does)) → Calm (along skip act result ls)
calm-along skip act result ls g = calm-then _ (reading (result ∷ [])) (calm-here _ (calm_walk skip act (start ls) ls (calm-start ls) g)) (calm-reading (result ∷ []))

-- ---- blocks: those that a block enters stand above it, so the blocks left fall

module _ (P : Program) (v : Version) (fit : Held (question8 P) v) where
  calm-block : (b : ℕ) (o : Option Block) → get_elem? v.blocks b ≡ o → 0 < b → ((e : ℕ) → b < e → Calm (block_action P v e)) → Calm (block_action P v b)
  calm-block b none e p ih = rw (walked-missing P v b e) calm-none
  calm-block b (some x) e p ih = rw (walked_at P v b x e) (calm-along (skips_of P) (acts P v b) x.result x.code (λ i l g. calm-act (entered P v b) (touch P l.does) inner (instr-still P v b p l.does (fit.of_instr b x i l e g))))
    where
      inner : (f : ℕ) → Calm (entered P v b f)
      inner f = go (ltb b f) refl
        where
          go : (t : Bool) → ltb b f ≡ t → Calm (cond t (block_action P v f) none)
          go true q = ih f (ltb-true b f q)
          go false q = calm-none

  calm-from : (m b : ℕ) → length v.blocks ≤ b + m → 0 < b → Calm (block_action P v b)
  calm-from zero b h p = rw (walked-missing P v b (get_none v.blocks b (omega arith))) calm-none
  calm-from (suc m) b h p = calm-block b (get_elem? v.blocks b) refl p (λ e l. calm-from m e (omega arith) (omega arith))

  -- THE LAW: a promise block empties nothing
  pub promise-empties-nothing : (b : ℕ) (a : Action) → 0 < b → block_action P v b ≡ some a → (r : ℕ) → has a.U r ≡ false
  promise-empties-nothing b a p = calm-from (length v.blocks) b (omega arith) p a
