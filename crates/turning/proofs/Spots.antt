-- Where a run stands, and what its next step comes to, with the number of its next instruction kept beside the state.
use mathlib.Core.Path.{◌≡◌, refl, sym, ap, ◌∙◌}
use mathlib.Core.List.{List, [], ◌∷◌}
use mathlib.Core.Option.{Option, none, some}
use mathlib.Core.Bool.{Bool, true, false, cond, ◌||◌}
use Prim.Native.Nat.{ℕ, zero, suc, ◌+◌, ◌-◌, ◌≤◌, ◌<◌}
use native.Mathlib.Omega.{arith}
use lib.IntN.{ℤ}
use lib.ListN.{length, get_elem?, set, take}
use lib.Seq.{set-set}
use lib.Dec.{leb}
use borrow.Author.Tests.{le-leb, lt-leb}
use Rattle.layout.specs.Bounds.{INSTRUCTIONS}
use Rattle.layout.specs.Tests.{any, ◌and◌}
use Rattle.layout.proofs.Lists.{get_take, take_in, get-same, get_in}
use Rattle.program.specs.Program.{Block, Instr, SKIP, Version, Program, find_version}
use Rattle.machine.specs.Try.{Try, got, stuck, stop, ◌>>=◌, ◌>>◌, stuck_unless, at, or_stuck}
use Rattle.machine.specs.Values.{RANGE, is_zero}
use Rattle.machine.specs.States.{held, is_force, integer, live_activations, live_frames, pending, value, vector_counts, with_stack}
use Rattle.machine.specs.Calls.{finish, passed, skipped}
use Rattle.machine.specs.Allowed.{advance_with, execute_with, needs_vector, proceed_with, vectors_in}
use Rattle.machine.specs.Steps.{Here, Position, block_end, execute, execute_to, here, instruction, outside, position, position_of, proceed_to}
use Rattle.machine.specs.declared.Activation.{Activation}
use Rattle.machine.specs.declared.End.{End}
use Rattle.machine.specs.declared.Frame.{Frame}
use Rattle.machine.specs.declared.Opener.{Opener}
use Rattle.machine.specs.declared.State.{State}
use Rattle.machine.specs.declared.Value.{Value}
use Rattle.machine.proofs.Tries.{at_some, or-stuck}
use Rattle.runs.proofs.Keeps.{Gives, Keeps, gives-got}
use Rattle.runs.specs.Lives.{numbers}
use Rattle.turning.specs.Plain.{is_plain}
use Rattle.turning.specs.Standing.{Spotted, aside, moved, standing}
use Rattle.turning.proofs.Aside.{besides, execute-aside}
use Rattle.turning.proofs.Still.{Still, execute-still}

-- the same openers
any-set : (p : ℕ) (l : List Activation) (d i : ℕ) (a b : Activation) → get_elem? l i ≡ some a → b.opener ≡ a.opener → any (λ (c : Activation). is_force p c.opener)
    (take d (set l i b)) ≡ any (λ (c : Activation). is_force p c.opener) (take d l)
unfolding any
any-set p [] d i a b e o = refl
any-set p (x ∷ l) zero zero a b e o = refl
any-set p (x ∷ l) zero (suc i) a b e o = refl
any-set p (x ∷ l) (suc d) zero a b e o = let q : x ≡ a = cc in ap (λ w. is_force p w || any (λ (c : Activation). is_force p c.opener) (take d l))
    (o ∙ ap (λ (c : Activation). c.opener) (sym q))
any-set p (x ∷ l) (suc d) (suc i) a b e o = ap (λ w. is_force p x.opener || w) (any-set p l d i a b e o)

-- an instruction that is executed is executed as without a pool
pub with-got : (most : ℕ) (P : Program) (u : State) (k : ℕ) (f : Frame) (W : Version) (i : Instr) (w : State) → execute_with most P u k f W i ≡ got w → execute P u k f W i ≡ got w
unfolding execute_with
with-got most P u k f W i w = go (needs_vector u.vectors f i and leb most (vectors_in u))
  where
    go : (t : Bool) → elim t [ true ↦ stop End.Vectors | false ↦ execute P u k f W i ] ≡ got w → execute P u k f W i ≡ got w
    go true e = let z : ◌≡◌ {A = ℕ} 0 1 = cc in absurd (omega arith)
    go false e = e

module _ (most : ℕ) (P : Program) (u : State) (k : ℕ) (a : Activation) (f : Frame) (W : Version) (B : Block) (S : Spotted P u k a f W B) where
  abbrev list : ℕ → List Activation
  list x = set u.activations (u.depth - 1) (moved a x)

  pends : (x p : ℕ) → pending (aside u (list x)) p ≡ pending u p
  unfolding pending live_activations aside with_stack moved
  pends x p = any-set p u.activations u.depth (u.depth - 1) a (moved a x) S.top refl

  inside : u.depth - 1 < length u.activations
  inside = (get_in u.activations (u.depth - 1) a a S.top).0

  at_top : (x : ℕ) → at (live_activations (standing u a x)) (u.depth - 1) ≡ got (moved a x)
  unfolding standing aside with_stack live_activations
  at_top x = let d = S.deep in at_some (take u.depth (list x)) (u.depth - 1) (moved a x)
      (get_take (list x) u.depth (u.depth - 1) (omega arith) ∙ get-same u.activations (u.depth - 1) (moved a x) inside)

  abbrev stood : ℕ → Here
  stood x = record { activation = moved a x; frame = f; version = W; block = B }

  here-standing : (x : ℕ) → here P (standing u a x) ≡ got (stood x)
  unfolding here standing aside with_stack live_frames moved ◌>>=◌ at or_stuck
  here-standing x = rw (at_top x, S.frame, S.live, S.version, S.block) refl

  step-at : (x : ℕ) → advance_with most P (standing u a x) ≡ proceed_with most P (standing u a x) (stood x) (position (take INSTRUCTIONS B.code) x)
  unfolding advance_with position_of moved ◌>>=◌
  step-at x = rw (here-standing x) refl

  passed-standing : (x : ℕ) → passed (standing u a x) (moved a x) ≡ standing u a (x + 1)
  unfolding passed standing aside with_stack moved
  passed-standing x = ap (λ l. with_stack u u.frames u.calls l u.depth) (set-set u.activations (u.depth - 1) (moved a x) (moved a (x + 1)))

  framed : (x : ℕ) → (moved a x).frame ≡ k
  unfolding moved
  framed x = S.frame

  -- an instruction
  pub step_line : (x : ℕ) (i : Instr) → position (take INSTRUCTIONS B.code) x ≡ instruction i → advance_with most P (standing u a x) ≡ execute_with most P (standing u a (x + 1)) k f W i
  unfolding proceed_with
  step_line x i e = step-at x ∙ ap (proceed_with most P (standing u a x) (stood x)) e ∙ go
    where
      go : execute_with most P (passed (standing u a x) (moved a x)) (moved a x).frame f W i ≡ execute_with most P (standing u a (x + 1)) k f W i
      go = rw (passed-standing x, framed x) refl

  -- the end of the block
  pub step_end : (x : ℕ) → position (take INSTRUCTIONS B.code) x ≡ block_end → advance_with most P (standing u a x) ≡
      (value f B.result >>= λ (v : Value). finish P (standing u a x) (moved a x) W v a.opener)
  unfolding proceed_with proceed_to moved
  step_end x e = step-at x ∙ ap (proceed_with most P (standing u a x) (stood x)) e

  -- neither
  pub step-outside : (x : ℕ) → position (take INSTRUCTIONS B.code) x ≡ outside → advance_with most P (standing u a x) ≡ stuck
  unfolding proceed_with proceed_to
  step-outside x e = step-at x ∙ ap (proceed_with most P (standing u a x) (stood x)) e

  -- ---- plain instructions

  module _ (x : ℕ) (i : Instr) (plain : is_plain i ≡ true) where
    aside-plain : execute P (standing u a x) k f W i ≡ besides (list x) (execute P u k f W i)
    unfolding standing
    aside-plain = execute-aside (list x) u (pends x) RANGE P k f W i plain

    -- a vector that is needed is counted in the frames
    aside-with : execute_with most P (standing u a x) k f W i ≡ besides (list x) (execute_with most P u k f W i)
    unfolding execute_with vectors_in vector_counts held live_frames standing aside with_stack besides
    aside-with = go (needs_vector u.vectors f i and leb most (vectors_in u))
      where
        go : (t : Bool) → ◌≡◌ {A = Try State} (elim t [ true ↦ stop End.Vectors | false ↦ execute P (standing u a x) k f W i ])
            (besides (list x) (elim t [ true ↦ stop End.Vectors | false ↦ execute P u k f W i ]))
        go true = refl
        go false = aside-plain

    pub plain-stuck : execute_with most P u k f W i ≡ stuck → execute_with most P (standing u a x) k f W i ≡ stuck
    unfolding besides
    plain-stuck e = aside-with ∙ rw e refl

    pub plain-stop : (h : End) → execute_with most P u k f W i ≡ stop h → execute_with most P (standing u a x) k f W i ≡ stop h
    unfolding besides
    plain-stop h e = aside-with ∙ rw e refl

    module _ (w : State) (e : execute_with most P u k f W i ≡ got w) where
      still : Still u w
      still = gives-got (Still u) (execute P u k f W i) w (execute-still RANGE P u k f W i plain) (with-got most P u k f W i w e)

      pub plain-got : execute_with most P (standing u a x) k f W i ≡ got (standing w a x)
      unfolding besides standing
      plain-got = aside-with ∙ ap (besides (list x)) e ∙ ap (λ l. got (aside w l)) (rw (still.activations, still.depth) refl)

-- ---- it stands there still

-- a frame by its numbers
numbered : (o : Option Frame) (x y : ℕ) → numbers o ≡ some (x, y) → (g : Frame) × (o ≡ some g) × (g.function ≡ x) × (g.version ≡ y)
unfolding numbers
numbered none x y e = let z : ◌≡◌ {A = ℕ} 0 1 = cc in absurd (omega arith)
numbered (some g) x y e =
    let q : ◌≡◌ {A = ℕ × ℕ} (g.function, g.version) (x, y) = cc in
    (g, refl, ap (λ (w : ℕ × ℕ). w.0) q, ap (λ (w : ℕ × ℕ). w.1) q)

live-frame : (u : State) (k : ℕ) (f : Frame) → at (live_frames u) k ≡ got f → (k < u.calls) × (get_elem? u.frames k ≡ some f)
unfolding at live_frames
live-frame u k f e =
    let l = or-stuck (get_elem? (take u.calls u.frames) k) f e in
    let h = take_in u.frames u.calls k f l in
    (h, sym (get_take u.frames u.calls k h) ∙ l)

frame-live : (u : State) (k : ℕ) (f : Frame) → k < u.calls → get_elem? u.frames k ≡ some f → at (live_frames u) k ≡ got f
unfolding live_frames
frame-live u k f h e = at_some (take u.calls u.frames) k f (get_take u.frames u.calls k h ∙ e)

pub spotted-still : (P : Program) (u w : State) (k : ℕ) (a : Activation) (f : Frame) (W : Version) (B : Block) → Spotted P u k a f W B → Keeps u w → Still u w → (g : Frame)
    × Spotted P w k a g W B × (g.function ≡ f.function) × (g.version ≡ f.version)
unfolding numbers
spotted-still P u w k a f W B S K T =
    let l = live-frame u k f S.live in
    let n = numbered (get_elem? w.frames k) f.function f.version (K.frames k ∙ ap numbers l.1) in
    let h = l.0 in (
      n.0,
      record {
        top = rw (T.activations, T.depth) S.top;
        deep = rw T.depth S.deep;
        frame = S.frame;
        live = frame-live w k n.0 (omega (arith, K.count)) n.1;
        version = rw (n.2, n.3) S.version;
        block = S.block;
      },
      n.2,
      n.3,
    )

-- ---- SKIP

module _ (R : ℕ) (P : Program) (u : State) (k : ℕ) (a : Activation) (f : Frame) (W : Version) (B : Block) (S : Spotted P u k a f W B) (x c n : ℕ) where
  pub skip-stuck : integer f c ≡ stuck → execute_to R P (standing u a x) k f W (SKIP c n) ≡ stuck
  unfolding execute_to ◌>>=◌
  skip-stuck e = rw e refl

  pub skip-on : (z : ℤ) → integer f c ≡ got z → is_zero z ≡ false → execute_to R P (standing u a x) k f W (SKIP c n) ≡ got (standing u a x)
  unfolding execute_to ◌>>=◌
  skip-on z e h = rw (e, h) refl

  module _ (z : ℤ) (e : integer f c ≡ got z) (h : is_zero z ≡ true) where
    by-skipped : execute_to R P (standing u a x) k f W (SKIP c n) ≡ skipped (standing u a x) n
    unfolding execute_to ◌>>=◌
    by-skipped = rw (e, h) refl

    by-room : skipped (standing u a x) n ≡ (stuck_unless (leb (x + n) INSTRUCTIONS) >> got (standing u a (x + n)))
    unfolding skipped standing aside with_stack moved ◌>>=◌
    by-room = rw (at_top 0 P u k a f W B S x) (ap (λ l. stuck_unless (leb (x + n) INSTRUCTIONS) >> got (with_stack u u.frames u.calls l u.depth))
        (set-set u.activations (u.depth - 1) (moved a x) (moved a (x + n))))

    pub skip-over : x + n ≤ INSTRUCTIONS → execute_to R P (standing u a x) k f W (SKIP c n) ≡ got (standing u a (x + n))
    unfolding stuck_unless ◌>>◌
    skip-over l = by-skipped ∙ by-room ∙ rw (le-leb (x + n) INSTRUCTIONS l) refl

    pub skip-far : INSTRUCTIONS < x + n → execute_to R P (standing u a x) k f W (SKIP c n) ≡ stuck
    unfolding stuck_unless ◌>>◌
    skip-far l = by-skipped ∙ by-room ∙ rw (lt-leb (x + n) INSTRUCTIONS l) refl
