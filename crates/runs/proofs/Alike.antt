-- A run looks at no offset: alike programs take the same steps.
use mathlib.Core.Path.{◌≡◌, refl, sym, ap, ◌∙◌}
use mathlib.Core.List.{List, [], ◌∷◌, map}
use mathlib.Core.Option.{Option, none, some}
use mathlib.Core.Bool.{Bool, true, false, cond}
use Prim.Native.Nat.{ℕ, zero, suc, ◌-◌}
use lib.IntN.{ℤ}
use lib.ListN.{take}
use lib.Dec.{eqb, leb}
use Rattle.layout.specs.Tests.{◌and◌, found}
use Rattle.program.specs.Program.{Argument, Instr, LIT, MOVE, USE, DUP, VEC, LEN, GET, SET, ARITH, SELECT, CAST, NAMED, STORE, PROM, FORCE, PEEK, POKE, CALL, DISPATCH, SKIP, Line, Block, Version, Program, find_version, first_mark, parameter_types}
use Rattle.rules.specs.Fits.{promise_kind}
use Rattle.machine.specs.Try.{Try, got, stuck, stop, ◌>>=◌, ◌>>◌, at, or_stuck, each, stuck_unless}
use Rattle.machine.specs.States.{kind_in, live_activations, live_frames, value}
use Rattle.machine.specs.Calls.{dispatches, finish, lowest, picked, matching, enter, frame_for, passed}
use Rattle.machine.specs.Begin.{Given, arguments, entered_of, question11, question19, question12, refused, run_level}
use Rattle.machine.specs.declared.Begun.{Begun}
use Rattle.machine.specs.Steps.{Position, instruction, block_end, outside, position, position_of, here, proceed_to, execute_to, advance_to, registers_of}
use Rattle.layout.specs.Bounds.{INSTRUCTIONS}
use Rattle.machine.specs.declared.Activation.{Activation}
use Rattle.machine.specs.declared.Frame.{Frame}
use Rattle.machine.specs.declared.Opener.{Opener}
use Rattle.machine.specs.declared.State.{State}
use Rattle.machine.specs.declared.Value.{Value}
use Rattle.runs.specs.Alike.{bare_line, bare_block, bare, bare_of, AllAlike}

-- ---- look-ups that look at no offset

-- then: what goes on the same from the same
pub bind-same : {A B : Type 0} (t : Try A) (f g : A → Try B) → ((x : A) → f x ≡ g x) → (t >>= f) ≡ (t >>= g)
unfolding ◌>>=◌
bind-same (got a) f g h = h a
bind-same stuck f g h = refl
bind-same (stop e) f g h = refl

-- a version
pub version-same : {A : Type 0} (o p : Option Version) → bare_of o ≡ bare_of p → (f g : Version → Try A) → ((W : Version) → f W ≡ f (bare W)) → ((W : Version) → g W ≡ g (bare W)) → ((W : Version) → f W ≡ g W)
    → (or_stuck o >>= f) ≡ (or_stuck p >>= g)
unfolding bare_of ◌>>=◌ or_stuck
version-same {A = A} o p e f g h k s = front o f h ∙ ap (λ q. or_stuck q >>= f) e ∙ bind-same (or_stuck (bare_of p)) f g s ∙ sym (front p g k)
  where
    front : (q : Option Version) (f : Version → Try A) → ((W : Version) → f W ≡ f (bare W)) → (or_stuck q >>= f) ≡ (or_stuck (bare_of q) >>= f)
    front none f h = refl
    front (some W) f h = h W

-- a block
pub block-bare : {A : Type 0} (bs : List Block) (i : ℕ) (f g : Block → Try A) → ((B : Block) → f B ≡ g (bare_block B)) → (at bs i >>= f) ≡ (at (map bare_block bs) i >>= g)
unfolding at or_stuck ◌>>=◌
block-bare [] i f g h = refl
block-bare (B ∷ bs) zero f g h = h B
block-bare (B ∷ bs) (suc i) f g h = block-bare bs i f g h

-- that there is one
pub block-there : {A : Type 0} (bs : List Block) (i : ℕ) (t : Try A) → (at bs i >> t) ≡ (at (map bare_block bs) i >> t)
unfolding at or_stuck ◌>>◌
block-there [] i t = refl
block-there (B ∷ bs) zero t = refl
block-there (B ∷ bs) (suc i) t = block-there bs i t

-- its mark
pub mark-bare : (bs : List Block) → first_mark bs ≡ first_mark (map bare_block bs)
unfolding first_mark
mark-bare [] = refl
mark-bare (B ∷ bs) = refl

-- what stands in it
pub position-bare : (m : ℕ) (ls : List Line) (n : ℕ) → position (take m ls) n ≡ position (take m (map bare_line ls)) n
unfolding position
position-bare zero ls n = none-there ls
  where
    none-there : (ls : List Line) → position (take zero ls) n ≡ position (take zero (map bare_line ls)) n
    none-there [] = refl
    none-there (l ∷ ls) = refl
position-bare (suc m) [] n = refl
position-bare (suc m) (l ∷ ls) zero = refl
position-bare (suc m) (l ∷ ls) (suc n) = position-bare m ls n

module _ (R : ℕ) (P Q : Program) (A : AllAlike P Q) (s : State) where
  pub kind-alike : (v : Value) → kind_in P s v ≡ kind_in Q s v
  unfolding kind_in AllAlike
  kind-alike Value.Empty = refl
  kind-alike (Value.Integer z) = refl
  kind-alike (Value.Vector v) = refl
  kind-alike (Value.Promise p) =
      bind-same (at s.promises p) _ _ (λ q. bind-same (at (live_frames s) q.frame) _ _ (λ f.
      let h : (W : Version) → (at W.blocks q.block >>= λ (B : Block). got (promise_kind B.mark)) ≡ (at (map bare_block W.blocks) q.block >>= λ (B : Block). got (promise_kind B.mark)) = λ W. block-bare W.blocks q.block _ _ (λ B. refl) in
      version-same _ _ (A f.function f.version) _ _ h h (λ W. refl)))

  kinds-alike : (vs : List Value) → each (kind_in P s) vs ≡ each (kind_in Q s) vs
  unfolding each
  kinds-alike [] = refl
  kinds-alike (v ∷ vs) = rw (kind-alike v, kinds-alike vs) refl

  dispatches-bare : (level mark ret : ℕ) (pairs : List Argument) (ks : List ℕ) (W : Version) → dispatches level mark ret pairs ks W ≡ dispatches level mark ret pairs ks (bare W)
  unfolding dispatches
  dispatches-bare level mark ret pairs ks W = rw (mark-bare W.blocks) refl

  -- a DISPATCH picks the same
  module _ {B : Type 0} (passes : Version → Bool) (h : (W : Version) → passes W ≡ passes (bare W)) (k : Version → Try B) (g : (W : Version) → k W ≡ k (bare W)) where
    both : (b : Bool) (W : Version) (t u : Try Version) → (t >>= k) ≡ (u >>= k) → ((elim b [ true ↦ got W | false ↦ t ]) >>= k) ≡ ((elim b [ true ↦ got (bare W) | false ↦ u ]) >>= k)
    unfolding ◌>>=◌
    both true W t u e = g W
    both false W t u e = e

    pick : (o : Option Version) (t u : Try Version) → (t >>= k) ≡ (u >>= k) → ((elim (found o passes) [ true ↦ or_stuck o | false ↦ t ]) >>= k) ≡ ((elim (found (bare_of o) passes) [ true ↦ or_stuck (bare_of o) | false ↦ u ]) >>= k)
    unfolding ◌>>=◌ bare_of or_stuck found
    pick none t u e = e
    pick (some W) t u e = rw (h W) (both (passes (bare W)) W t u e)

    lowest-alike : (f n w : ℕ) → (lowest P f passes n w >>= k) ≡ (lowest Q f passes n w >>= k)
    unfolding lowest AllAlike ◌>>=◌
    lowest-alike f zero w = refl
    lowest-alike f (suc n) w =
        pick (find_version P f w) (lowest P f passes n (suc w)) (lowest Q f passes n (suc w)) (lowest-alike f n (suc w))
        ∙ ap (λ (q : Option Version). ◌>>=◌ {A = Version} {B = B} (elim (found q passes) [ true ↦ or_stuck q | false ↦ lowest Q f passes n (suc w) ]) k) (A f w)
        ∙ sym (pick (find_version Q f w) (lowest Q f passes n (suc w)) (lowest Q f passes n (suc w)) refl)

  picked-alike : {B : Type 0} (level f mark ret : ℕ) (pairs : List Argument) (ks : List ℕ) (k : Version → Try B) → ((W : Version) → k W ≡ k (bare W)) → (picked P level f mark ret pairs ks >>= k) ≡ (picked Q level f mark ret pairs ks >>= k)
  unfolding picked
  picked-alike level f mark ret pairs ks k g = lowest-alike (dispatches level mark ret pairs ks) (dispatches-bare level mark ret pairs ks) k g f _ _

  seen : (f w : ℕ) → bare_of (find_version P f w) ≡ bare_of (find_version Q f w)
  unfolding AllAlike
  seen f w = A f w

  -- a call looks at no offset
  enter-bare : (k d : ℕ) (W : Version) (rs : List ℕ) (vs : List Value) → enter s k d W rs vs ≡ enter s k d (bare W) rs vs
  unfolding enter frame_for
  enter-bare k d W rs vs = refl

  call-bare : (X : Program) (k d : ℕ) (f : Frame) (rs : List ℕ) (W : Version)
      → (each (value f) rs >>= λ vs. each (kind_in X s) vs >>= λ ks. stuck_unless (matching ks (parameter_types W)) >> enter s k d W rs vs)
      ≡ (each (value f) rs >>= λ vs. each (kind_in X s) vs >>= λ ks. stuck_unless (matching ks (parameter_types (bare W))) >> enter s k d (bare W) rs vs)
  unfolding enter frame_for
  call-bare X k d f rs W = refl

  -- ---- the step

  pub execute-alike : (k : ℕ) (f : Frame) (W : Version) (i : Instr) → execute_to R P s k f W i ≡ execute_to R Q s k f (bare W) i
  unfolding execute_to
  execute-alike k f W (LIT d i) = refl
  execute-alike k f W (MOVE d a) = bind-same (value f a) _ _ (λ v. rw (kind-alike v) refl)
  execute-alike k f W (USE d a) = refl
  execute-alike k f W (DUP d a) = refl
  execute-alike k f W (VEC d rs) = refl
  execute-alike k f W (LEN d a) = refl
  execute-alike k f W (GET d a i) = refl
  execute-alike k f W (SET a i e) = refl
  execute-alike k f W (ARITH d op a b) = refl
  execute-alike k f W (SELECT d c a b) = refl
  execute-alike k f W (CAST d a) = bind-same (value f a) _ _ (λ v. rw (kind-alike v) refl)
  execute-alike k f W (NAMED d x) = refl
  execute-alike k f W (STORE x a) = refl
  execute-alike k f W (PROM d b) = block-there W.blocks b _
  execute-alike k f W (FORCE d a) = refl
  execute-alike k f W (PEEK d a x) = refl
  execute-alike k f W (POKE a x e) = refl
  execute-alike k f W (CALL d g w rs) =
      version-same _ _ (seen g w) _ _ (call-bare P k d f rs) (call-bare Q k d f rs) (λ X. bind-same (each (value f) rs) _ _ (λ vs. rw (kinds-alike vs) refl))
  execute-alike k f W (DISPATCH d g mark ret pairs) =
      bind-same (each (value f) (registers_of pairs)) _ _ (λ vs. rw (kinds-alike vs) (bind-same (each (kind_in Q s) vs) _ _ (λ ks.
      picked-alike W.level g mark ret pairs ks (λ X. enter s k d X (registers_of pairs) vs) (λ X. enter-bare k d X (registers_of pairs) vs))))
  execute-alike k f W (SKIP a n) = refl

  finish-alike : (a : Activation) (W : Version) (v : Value) (o : Opener) → finish P s a W v o ≡ finish Q s a (bare W) v o
  unfolding finish
  finish-alike a W v Opener.Call = rw (kind-alike v) refl
  finish-alike a W v (Opener.Force p) = refl

bind_assoc : {A B C : Type 0} (t : Try A) (f : A → Try B) (g : B → Try C) → ((t >>= f) >>= g) ≡ (t >>= λ x. f x >>= g)
unfolding ◌>>=◌
bind_assoc (got a) f g = refl
bind_assoc stuck f g = refl
bind_assoc (stop e) f g = refl

-- a program is like itself
pub alike_self : (P : Program) → AllAlike P P
unfolding AllAlike
alike_self P = λ f w. refl

proceed-alike : (R : ℕ) (P Q : Program) → AllAlike P Q → (s : State) (a : Activation) (f : Frame) (W : Version) (B : Block) (p : Position)
    → proceed_to R P s (record { activation = a; frame = f; version = W; block = B }) p ≡ proceed_to R Q s (record { activation = a; frame = f; version = bare W; block = bare_block B }) p
unfolding proceed_to
proceed-alike R P Q A s a f W B (instruction i) = execute-alike R P Q A (passed s a) a.frame f W i
proceed-alike R P Q A s a f W B block_end = bind-same (value f B.result) _ _ (λ v. finish-alike R P Q A s a W v a.opener)
proceed-alike R P Q A s a f W B outside = refl

module _ (R : ℕ) (s : State) (a : Activation) (f : Frame) where
  -- the step in the block of an activation
  unfoldable step_in : Program → Version → Try State
  step_in P W = at W.blocks a.block >>= λ (B : Block). proceed_to R P s (record { activation = a; frame = f; version = W; block = B }) (position (take INSTRUCTIONS B.code) a.next)

  step-bare : (P Q : Program) → AllAlike P Q → (W : Version) → step_in P W ≡ step_in Q (bare W)
  unfolding step_in
  step-bare P Q A W = block-bare W.blocks a.block _ _ (λ B. ap (proceed_to R P s (record { activation = a; frame = f; version = W; block = B })) (position-bare INSTRUCTIONS B.code a.next) ∙ proceed-alike R P Q A s a f W B _)

-- a step, flat
flat : (R : ℕ) (P : Program) (s : State) → advance_to R P s ≡ (at (live_activations s) (s.depth - 1) >>= λ a. at (live_frames s) a.frame >>= λ f. or_stuck (find_version P f.function f.version) >>= step_in R s a f P)
unfolding advance_to here position_of step_in proceed_to ◌>>=◌
flat R P s =
    bind_assoc (at (live_activations s) (s.depth - 1)) _ _ ∙ bind-same (at (live_activations s) (s.depth - 1)) _ _ (λ a. bind_assoc (at (live_frames s) a.frame) _ _ ∙ bind-same (at (live_frames s) a.frame) _ _ (λ f.
    bind_assoc (or_stuck (find_version P f.function f.version)) _ _ ∙ bind-same (or_stuck (find_version P f.function f.version)) _ _ (λ W. bind_assoc (at W.blocks a.block) _ _)))

-- alike programs: in any state, the same step
pub advance-alike : (R : ℕ) (P Q : Program) → AllAlike P Q → (s : State) → advance_to R P s ≡ advance_to R Q s
unfolding AllAlike
advance-alike R P Q A s =
    flat R P s
    ∙ bind-same (at (live_activations s) (s.depth - 1)) _ _ (λ a. bind-same (at (live_frames s) a.frame) _ _ (λ f.
    version-same _ _ (A f.function f.version) (step_in R s a f P) (step_in R s a f Q) (step-bare R s a f P P (alike_self P)) (step-bare R s a f Q Q (alike_self Q))
    (λ W. step-bare R s a f P Q A W ∙ sym (step-bare R s a f Q Q (alike_self Q) W))))
    ∙ sym (flat R Q s)

-- ---- programs by their lists

find-bare : (P : Program) (f w : ℕ) → bare_of (find_version P f w) ≡ find_version (map bare P) f w
unfolding find_version bare_of
find-bare [] f w = refl
find-bare (v ∷ vs) f w = go (eqb v.function f and eqb v.version w) ∙ ap (cond (eqb v.function f and eqb v.version w) (some (bare v))) (find-bare vs f w)
  where
    go : (b : Bool) → bare_of (cond b (some v) (find_version vs f w)) ≡ cond b (some (bare v)) (bare_of (find_version vs f w))
    go true = refl
    go false = refl

-- the same versions in the same order, but for offsets
pub bare_alike : (P Q : Program) → map bare P ≡ map bare Q → AllAlike P Q
unfolding AllAlike
bare_alike P Q e = λ f w. find-bare P f w ∙ ap (λ X. find_version X f w) e ∙ sym (find-bare Q f w)

-- ---- from the start

-- alike programs are entered alike
pub entered-alike : (P Q : Program) → AllAlike P Q → (level f w : ℕ) (words buffer : List ℤ) → entered_of P level f w words buffer ≡ entered_of Q level f w words buffer
unfolding AllAlike entered_of question11 question19 question12 frame_for bare_of
entered-alike P Q A level f w words buffer = go (find_version P f w) ∙ ap (λ o. question11 level o words buffer) (A f w) ∙ sym (go (find_version Q f w))
  where
    entry : (W : Version) (o : Option (List Given)) → question12 W o buffer ≡ question12 (bare W) o buffer
    entry W none = refl
    entry W (some xs) = refl

    go : (o : Option Version) → question11 level o words buffer ≡ question11 level (bare_of o) words buffer
    go none = refl
    go (some W) = ap (λ (b : Begun). elim (leb W.level (run_level level)) [ true ↦ b | false ↦ refused 19 0 ]) (entry W (arguments (parameter_types W) words))
