-- What the blocks of a version do under two programs that passed the questions: they read, assign and capture the same. Only what calls
-- empty may differ, by the versions that are called.
use mathlib.Core.Path.{◌≡◌, refl, sym, ap, ◌∙◌}
use mathlib.Core.List.{List, [], ◌∷◌}
use mathlib.Core.Option.{Option, none, some}
use mathlib.Core.Bool.{Bool, true, false, cond, ◌&&◌}
use Prim.Native.Nat.{ℕ, zero, suc, ◌+◌, ◌≤◌, ◌<◌}
use native.Mathlib.Omega.{arith}
use lib.ListN.{length, take, drop, get_or, set, get_elem?, length-drop, length-set, length-replicate}
use lib.Seq.{get_or-drop}
use lib.Dec.{ltb}
use borrow.Author.Tests.{ltb-true}
use Rattle.layout.specs.Bounds.{INSTRUCTIONS}
use Rattle.sets.specs.Sets.{has}
use Rattle.sets.proofs.Members.{has_both}
use Rattle.program.specs.Program.{Instr, LIT, MOVE, USE, DUP, VEC, LEN, GET, SET, ARITH, SELECT, CAST, NAMED, STORE, PROM, FORCE, PEEK, POKE, CALL, DISPATCH, SKIP, Line, Block, Version, Program}
use Rattle.rules.specs.Actions.{Action, ◌then◌, reading, Touch, reads◌empties◌assigns◌, enters◌assigns◌, reads◌skips◌, touch, action_of, skip_of, either, Walk, join, here, past, walk, start, along}
use Rattle.rules.specs.Walks.{block_action, entered, acts, skips_of, walk_to}
use Rattle.rules.proofs.Follows.{Follows, then-parts, has-union}
use Rattle.rules.proofs.Ways.{some_is}
use Rattle.rules.proofs.Calm.{blank}
use Rattle.rules.proofs.Touches.{touched-by, promises-by}
use Rattle.rules.proofs.Walked.{walked_at, walked-missing}
use Rattle.layout.proofs.Lists.{get_none}
use Rattle.soundness.proofs.Same.{SameCode, SameBlocks, code-take, code-length, block-there}

-- they read, assign and capture the same
pub record Like (a b : Action) : Type 0 where
  pub R : (r : ℕ) → has a.R r ≡ has b.R r
  pub W : (r : ℕ) → has a.W r ≡ has b.W r
  pub C : (r : ℕ) → has a.C r ≡ has b.C r

-- where both are allowed
abbrev pub Likes : Option Action → Option Action → Type 0
Likes x y = (a b : Action) → x ≡ some a → y ≡ some b → Like a b

like-same : (x : Option Action) → Likes x x
like-same x a b e f = let q : some a ≡ some b = sym e ∙ f in let p : a ≡ b = cc in rw p (record { R = λ r. refl; W = λ r. refl; C = λ r. refl })

like-none : (x : Option Action) → Likes none x
like-none x a b e f = let z : ◌≡◌ {A = ℕ} 0 1 = cc in absurd (omega arith)

-- one after the other
like-follows : (a b c a' b' c' : Action) → Follows a b c → Follows a' b' c' → Like a a' → Like b b' → Like c c'
like-follows a b c a' b' c' f g p q = record {
  R = λ r. f.is-R r ∙ rw (p.R r, q.R r, p.W r) (sym (g.is-R r));
  W = λ r. f.is-W r ∙ rw (p.W r, q.W r) (sym (g.is-W r));
  C = λ r. f.is-C r ∙ rw (p.C r, q.C r) (sym (g.is-C r));
}

like-then : (x y x' y' : Option Action) → Likes x x' → Likes y y' → Likes (x then y) (x' then y')
like-then x y x' y' p q c c' e e' =
    let s = then-parts x y c e in
    let t = then-parts x' y' c' e' in
    like-follows s.first s.second c t.first t.second c' s.follows t.follows (p _ _ s.is-first t.is-first) (q _ _ s.is-second t.is-second)

-- ---- instructions

-- they read and assign the same registers, enter the same block and pass over as many
data Touches : Touch → Touch → Type 0 where
  plainly : (rs us us' ds : List ℕ) → Touches (reads rs empties us assigns ds) (reads rs empties us' assigns ds)
  entering : (block : ℕ) (ds : List ℕ) → Touches (enters block assigns ds) (enters block assigns ds)
  skipping : (rs : List ℕ) (n : ℕ) → Touches (reads rs skips n) (reads rs skips n)

touches : (P Q : Program) (i : Instr) → Touches (touch P i) (touch Q i)
unfolding touch
touches P Q (LIT d i) = plainly _ _ _ _
touches P Q (MOVE d a) = plainly _ _ _ _
touches P Q (USE d a) = plainly _ _ _ _
touches P Q (DUP d a) = plainly _ _ _ _
touches P Q (VEC d rs) = plainly _ _ _ _
touches P Q (LEN d a) = plainly _ _ _ _
touches P Q (GET d a i) = plainly _ _ _ _
touches P Q (SET a i e) = plainly _ _ _ _
touches P Q (ARITH d op a b) = plainly _ _ _ _
touches P Q (SELECT d c a b) = plainly _ _ _ _
touches P Q (CAST d a) = plainly _ _ _ _
touches P Q (NAMED d x) = plainly _ _ _ _
touches P Q (STORE x a) = plainly _ _ _ _
touches P Q (PROM d block) = entering _ _
touches P Q (FORCE d a) = plainly _ _ _ _
touches P Q (PEEK d a x) = plainly _ _ _ _
touches P Q (POKE a x e) = plainly _ _ _ _
touches P Q (CALL d f w rs) = plainly _ _ _ _
touches P Q (DISPATCH d f mark ret pairs) = plainly _ _ _ _
touches P Q (SKIP a n) = skipping _ _

-- what an instruction may pass over does not depend on the program
touches-skip : (t u : Touch) → Touches t u → skip_of t ≡ skip_of u
unfolding skip_of
touches-skip _ _ (plainly rs us us' ds) = refl
touches-skip _ _ (entering block ds) = refl
touches-skip _ _ (skipping rs n) = refl

pub skips-same : (P Q : Program) (i : Instr) → skips_of P i ≡ skips_of Q i
skips-same P Q i = touches-skip (touch P i) (touch Q i) (touches P Q i)

like-skip : (f g : ℕ → Option Action) (rs : List ℕ) (n : ℕ) → Likes (action_of f (reads rs skips n)) (action_of g (reads rs skips n))
unfolding action_of
like-skip f g rs n = like-same (reading rs)

-- it empties nothing
abbrev Calm : Option Action → Type 0
Calm x = (a : Action) → x ≡ some a → (r : ℕ) → has a.U r ≡ false

like-act : (f g : ℕ → Option Action) (t u : Touch) → ((e : ℕ) → Likes (f e) (g e)) → ((e : ℕ) → Calm (f e)) → ((e : ℕ) → Calm (g e)) → Touches t u → Likes (action_of f t) (action_of g u)
like-act f g _ _ h p q (plainly rs us us' ds) a b e e' =
    let s = touched-by f rs us ds a e in
    let t = touched-by g rs us' ds b e' in
    record { R = λ r. s.is-R r ∙ sym (t.is-R r); W = λ r. s.is-W r ∙ sym (t.is-W r); C = λ r. s.is-C r ∙ sym (t.is-C r) }
like-act f g _ _ h p q (entering block ds) a b e e' =
    let s = promises-by f block ds a e in
    let t = promises-by g block ds b e' in
    let i = h block s.inner t.inner s.is-inner t.is-inner in
    record {
      R = λ r. s.is-R r ∙ i.R r ∙ sym (t.is-R r);
      W = λ r. s.is-W r ∙ sym (t.is-W r);
      C = λ r. s.is-C r ∙ rw (i.R r, i.W r, i.C r, p block s.inner s.is-inner r) (sym (rw (q block t.inner t.is-inner r) at (t.is-C r)));
    }
like-act f g _ _ h p q (skipping rs n) a b e e' = like-skip f g rs n a b e e'

-- ---- ways

-- no way on both sides, or ways that are alike
unfoldable Slot : Option Action → Option Action → Type 0
Slot none none = Unit {0}
Slot none (some b) = ⊥
Slot (some a) none = ⊥
Slot (some a) (some b) = Like a b

like-either : (a b c d : Action) → Like a b → Like c d → Like (either a c) (either b d)
unfolding either
like-either a b c d p q = record {
  R = λ r. has-union a.R c.R r ∙ rw (p.R r, q.R r) (sym (has-union b.R d.R r));
  W = λ r. has_both ◌&&◌ refl a.W c.W r ∙ rw (p.W r, q.W r) (sym (has_both ◌&&◌ refl b.W d.W r));
  C = λ r. has-union a.C c.C r ∙ rw (p.C r, q.C r) (sym (has-union b.C d.C r));
}

slot-join : (a b : Action) (x y : Option Action) → Like a b → Slot x y → Slot (join (some a) x) (join (some b) y)
unfolding join Slot
slot-join a b none none p q = p
slot-join a b none (some d) p q = absurd q
slot-join a b (some c) none p q = absurd q
slot-join a b (some c) (some d) p q = like-either a b c d p q

slot-likes : (x y : Option Action) → Slot x y → Likes x y
unfolding Slot
slot-likes none y h c d e f = like-none y c d e f
slot-likes (some a) none h c d e f = absurd h
slot-likes (some a) (some b) h c d e f = let p : a ≡ c = some_is e in let q : b ≡ d = some_is f in rw (← p, ← q) h

set-two : {A : Type 0} (T : A → A → Type 0) (d : A) (l k : List A) (n : ℕ) (x y : A) → length l ≡ length k → T x y → ((m : ℕ) → T (get_or l m d) (get_or k m d)) → (m : ℕ) → T (get_or (set l n x) m d) (get_or (set k n y) m d)
set-two T d [] [] n x y e h g m = g m
set-two T d [] (z ∷ k) n x y e h g m = absurd (omega (arith, e))
set-two T d (z ∷ l) [] n x y e h g m = absurd (omega (arith, e))
set-two T d (z ∷ l) (z' ∷ k) zero x y e h g zero = h
set-two T d (z ∷ l) (z' ∷ k) zero x y e h g (suc m) = g (suc m)
set-two T d (z ∷ l) (z' ∷ k) (suc n) x y e h g zero = g 0
set-two T d (z ∷ l) (z' ∷ k) (suc n) x y e h g (suc m) = set-two T d l k n x y (omega (arith, e)) h (λ i. g (suc i)) m

-- ---- walks

-- where both are allowed, what was done is alike, and so are the ways
record LikeWays (w w' : Walk) (a b : Action) : Type 0 where
  pub done : Like a b
  pub ways : (n : ℕ) → Slot (get_or w.ways n none) (get_or w'.ways n none)

record LikeWalk (w w' : Walk) : Type 0 where
  pub lengths : length w.ways ≡ length w'.ways
  pub alike : (a b : Action) → w.done ≡ some a → w'.done ≡ some b → LikeWays w w' a b

-- at a place where both are allowed
like-here : (w w' : Walk) → LikeWalk w w' → (c d : Action) → here w ≡ some c → here w' ≡ some d → LikeWays w w' c d
unfolding here join
like-here w w' h c d e f = go w.done w'.done refl refl e f
  where
    go : (x y : Option Action) → w.done ≡ x → w'.done ≡ y → join x (get_or w.ways 0 none) ≡ some c → join y (get_or w'.ways 0 none) ≡ some d → LikeWays w w' c d
    go none y p q g k = let z : ◌≡◌ {A = ℕ} 0 1 = cc in absurd (omega arith)
    go (some a) none p q g k = let z : ◌≡◌ {A = ℕ} 0 1 = cc in absurd (omega arith)
    go (some a) (some b) p q g k =
        let t = h.alike a b p q in
        record { done = slot-likes _ _ (slot-join a b _ _ t.done (t.ways 0)) c d g k; ways = t.ways }

later : (w w' : Walk) (a b : Action) → LikeWays w w' a b → (n : ℕ) → Slot (get_or (drop 1 w.ways) n none) (get_or (drop 1 w'.ways) n none)
later w w' a b h n = rw (get_or-drop 1 w.ways n none, get_or-drop 1 w'.ways n none) (h.ways (1 + n))

some-if : (t : Bool) (x : Option Action) (c : Action) → cond t x none ≡ some c → x ≡ some c
some-if true x c e = e
some-if false x c e = let z : ◌≡◌ {A = ℕ} 0 1 = cc in absurd (omega arith)

like-past : (k : Option ℕ) (x y : Option Action) (w w' : Walk) → LikeWalk w w' → Likes x y → LikeWalk (past k x w) (past k y w')
unfolding past
like-past none x y w w' h g = record {
  lengths = length-drop 1 w.ways ∙ rw h.lengths (sym (length-drop 1 w'.ways));
  alike = λ c d e f.
      let s = then-parts (here w) x c e in
      let t = then-parts (here w') y d f in
      let u = like-here w w' h s.first t.first s.is-first t.is-first in
      record { done = like-follows s.first s.second c t.first t.second d s.follows t.follows u.done (g _ _ s.is-second t.is-second); ways = later w w' _ _ u };
}
like-past (some n) x y w w' h g = record {
  lengths = rw (length-set (drop 1 w.ways) n (join (here w then x) (get_or (drop 1 w.ways) n none)), length-set (drop 1 w'.ways) n (join (here w' then y) (get_or (drop 1 w'.ways) n none))) as_long;
  alike = λ c d e f. go c d (some-if (ltb n (length (drop 1 w.ways))) (here w then x) c e) (some-if (ltb n (length (drop 1 w'.ways))) (here w' then y) d f);
}
  where
    as_long : length (drop 1 w.ways) ≡ length (drop 1 w'.ways)
    as_long = length-drop 1 w.ways ∙ rw h.lengths (sym (length-drop 1 w'.ways))

    go : (c d : Action) → (here w then x) ≡ some c → (here w' then y) ≡ some d → LikeWays (past (some n) x w) (past (some n) y w') c d
    go c d e f =
        let s = then-parts (here w) x c e in
        let t = then-parts (here w') y d f in
        let u = like-here w w' h s.first t.first s.is-first t.is-first in
        let l = like-follows s.first s.second c t.first t.second d s.follows t.follows u.done (g _ _ s.is-second t.is-second) in
        record {
          done = l;
          ways = λ m. rw (e, f) (set-two Slot none (drop 1 w.ways) (drop 1 w'.ways) n (join (some c) (get_or (drop 1 w.ways) n none)) (join (some d) (get_or (drop 1 w'.ways) n none)) as_long (slot-join c d _ _ l (later w w' _ _ u n)) (later w w' _ _ u) m);
        }

module _ (skip skip' : Instr → Option ℕ) (act act' : Instr → Option Action) (same : (i : Instr) → skip i ≡ skip' i) (like : (i : Instr) → Likes (act i) (act' i)) where
  like-does : (i j : Instr) → i ≡ j → Likes (act i) (act' j)
  like-does i j e = rw (sym e) (like i)

  like-walk : (w w' : Walk) (ls ms : List Line) → LikeWalk w w' → SameCode ls ms → LikeWalk (walk skip act w ls) (walk skip' act' w' ms)
  unfolding walk SameCode
  like-walk w w' [] [] p h = p
  like-walk w w' [] (m ∷ ms) p h = absurd h
  like-walk w w' (l ∷ ls) [] p h = absurd h
  like-walk w w' (l ∷ ls) (m ∷ ms) p h =
      let q : skip l.does ≡ skip' m.does = same l.does ∙ ap skip' h.0 in
      like-walk (past (skip l.does) (act l.does) w) (past (skip' m.does) (act' m.does) w') ls ms (rw q (like-past (skip' m.does) (act l.does) (act' m.does) w w' p (like-does l.does m.does h.0))) h.1

  like-start : (ls ms : List Line) → SameCode ls ms → LikeWalk (start ls) (start ms)
  unfolding Slot
  like-start ls ms h = record {
    lengths = length-replicate {A = Option Action} (length (take INSTRUCTIONS ls) + 1) none ∙ rw (code-length (take INSTRUCTIONS ls) (take INSTRUCTIONS ms) (code-take INSTRUCTIONS ls ms h)) (sym (length-replicate {A = Option Action} (length (take INSTRUCTIONS ms) + 1) none));
    alike = λ a b e f. record { done = like-same (reading []) a b e f; ways = λ n. rw (blank (length (take INSTRUCTIONS ls) + 1) n, blank (length (take INSTRUCTIONS ms) + 1) n) tt };
  }

  -- at a place of code of which ls and ms are the part before it
  like_at : (xs ys ls ms : List Line) → SameCode xs ys → SameCode ls ms → Likes (here (walk skip act (start xs) ls)) (here (walk skip' act' (start ys) ms))
  like_at xs ys ls ms h g c d e f = (like-here _ _ (like-walk (start xs) (start ys) ls ms (like-start xs ys h) g) c d e f).done

  like-along : (result result' : ℕ) (ls ms : List Line) → result ≡ result' → SameCode ls ms → Likes (along skip act result ls) (along skip' act' result' ms)
  like-along result result' ls ms q h = rw q (like-then _ (reading (result' ∷ [])) _ (reading (result' ∷ [])) (like_at ls ms ls ms h h) (like-same (reading (result' ∷ []))))

-- ---- blocks: those that a block enters stand above it, so the blocks left fall

abbrev pub CalmBlocks : Program → Version → Type 0
CalmBlocks P v = (b : ℕ) (a : Action) → 0 < b → block_action P v b ≡ some a → (r : ℕ) → has a.U r ≡ false

calm-entered : (P : Program) (v : Version) → CalmBlocks P v → (b e : ℕ) → Calm (entered P v b e)
calm-entered P v c b e a = go (ltb b e) refl
  where
    go : (t : Bool) → ltb b e ≡ t → cond t (block_action P v e) none ≡ some a → (r : ℕ) → has a.U r ≡ false
    go true l h = c e a (omega (arith, ltb-true b e l)) h
    go false l h = let z : ◌≡◌ {A = ℕ} 0 1 = cc in absurd (omega arith)

module _ (P Q : Program) (v w : Version) (p : CalmBlocks P v) (q : CalmBlocks Q w) (same : SameBlocks v.blocks w.blocks) where
  like-entered : (b : ℕ) → ((e : ℕ) → b < e → Likes (block_action P v e) (block_action Q w e)) → (e : ℕ) → Likes (entered P v b e) (entered Q w b e)
  like-entered b h e = go (ltb b e) refl
    where
      go : (t : Bool) → ltb b e ≡ t → Likes (cond t (block_action P v e) none) (cond t (block_action Q w e) none)
      go true l = h e (ltb-true b e l)
      go false l = like-none none

  like-acts : (b : ℕ) → ((e : ℕ) → b < e → Likes (block_action P v e) (block_action Q w e)) → (i : Instr) → Likes (acts P v b i) (acts Q w b i)
  like-acts b h i = like-act (entered P v b) (entered Q w b) (touch P i) (touch Q i) (like-entered b h) (calm-entered P v p b) (calm-entered Q w q b) (touches P Q i)

  like-block : (b : ℕ) (o : Option Block) → get_elem? v.blocks b ≡ o → ((e : ℕ) → b < e → Likes (block_action P v e) (block_action Q w e)) → Likes (block_action P v b) (block_action Q w b)
  like-block b none e ih = rw (walked-missing P v b e) (like-none (block_action Q w b))
  like-block b (some x) e ih =
      let y = block-there v.blocks w.blocks b x same e in
      rw (walked_at P v b x e, walked_at Q w b y.0 y.1)
      (like-along (skips_of P) (skips_of Q) (acts P v b) (acts Q w b) (skips-same P Q) (like-acts b ih) x.result y.0.result x.code y.0.code y.2.result y.2.code)

  like-from : (m b : ℕ) → length v.blocks ≤ b + m → Likes (block_action P v b) (block_action Q w b)
  like-from zero b h = rw (walked-missing P v b (get_none v.blocks b (omega arith))) (like-none (block_action Q w b))
  like-from (suc m) b h = like-block b (get_elem? v.blocks b) refl (λ e l. like-from m e (omega arith))

  -- THE LAW: every block reads, assigns and captures the same
  pub like-blocks : (b : ℕ) → Likes (block_action P v b) (block_action Q w b)
  like-blocks b = like-from (length v.blocks) b (omega arith)

  -- each instruction
  pub like-instr : (b : ℕ) (i : Instr) → Likes (acts P v b i) (acts Q w b i)
  like-instr b = like-acts b (λ e _. like-blocks e)

  -- and all that is done before a place
  pub like-place : (b i : ℕ) (ls ms : List Line) → SameCode ls ms → Likes (here (walk_to P v b ls i)) (here (walk_to Q w b ms i))
  like-place b i ls ms h = like_at (skips_of P) (skips_of Q) (acts P v b) (acts Q w b) (skips-same P Q) (like-instr b) ls ms (take i ls) (take i ms) h (code-take i ls ms h)
