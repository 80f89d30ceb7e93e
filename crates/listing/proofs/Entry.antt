-- `enter`, by what its parts answered.
use mathlib.Core.Path.{◌≡◌, refl, sym, ap, ◌∙◌}
use mathlib.Core.List.{List, [], ◌∷◌}
use mathlib.Core.Bool.{Bool, true, false}
use mathlib.Core.Option.{Option, none, some}
use Prim.Native.Nat.{ℕ, ◌+◌, ◌≤◌, ◌<◌}
use native.Mathlib.Omega.{arith}
use lib.IntN.{ℤ}
use lib.ListN.{get_elem?, length, length-set, set}
use lib.Seq.{set_comm}
use lib.Dec.{ltb}
use borrow.Author.Tests.{le-ltb, lt-ltb}
use Rattle.layout.specs.Records.{◌!◌}
use Rattle.layout.proofs.Lists.{get_other, get-same, get_take}
use Rattle.program.specs.Program.{Version, parameter_types}
use Rattle.rules.specs.Types.{is_owned}
use Rattle.machine.specs.Try.{Try, got, stuck, stop, ◌>>=◌, ◌>>◌, at, end_unless, or_stuck, put, stuck_unless}
use Rattle.machine.specs.Calls.{emptied, empty_if, enter, frame_for, opened}
use Rattle.machine.specs.States.{assign, live_frames, new_frame, place, with_frame, with_register, with_stack}
use Rattle.machine.specs.declared.Activation.{Activation}
use Rattle.machine.specs.declared.End.{End}
use Rattle.machine.specs.declared.Frame.{Frame}
use Rattle.machine.specs.declared.Opener.{Opener}
use Rattle.machine.specs.declared.State.{State}
use Rattle.machine.specs.declared.Value.{Value}
use Rattle.store.specs.declared.Did.{Did}
use Rattle.store.specs.Store.{CALLS, DEPTH, frame_in, state_in, Live}
use Rattle.store.specs.Acts.{Does, with_open}
use Rattle.acts.proofs.Answers.{does-got}
use Rattle.listing.specs.Listing.{Small}
use Rattle.listing.specs.Entering.{AllFull, Marks, entered, held_by, masked, passed_on, with_arguments}
use Rattle.listing.proofs.Arguments.{set_twice}
use Rattle.listing.proofs.Opening.{frame-by, frame_is, frames-long, held_same, mask-types}

-- ---- registers emptied before a frame opens, or behind

module _ (f : Frame) (k : ℕ) where
  -- the rest of `enter`, behind the emptied registers
  abbrev pub opens : State → Try State
  opens u = put u.frames u.calls f >>= λ fs. got (with_stack u fs (u.calls + 1) u.activations u.depth)

  now-open : (s : State) → s.calls < length s.frames → opens s ≡ got (with_open s f)
  unfolding put stuck_unless ◌>>◌ ◌>>=◌ with_open
  now-open s l = rw (lt-ltb s.calls (length s.frames) l) refl

  no_place : (s : State) → length s.frames ≤ s.calls → opens s ≡ stuck
  unfolding put stuck_unless ◌>>◌ ◌>>=◌
  no_place s l = rw (le-ltb s.calls (length s.frames) l) refl

  -- the old frame is where it was
  old-there : (s : State) → k < s.calls → at (live_frames (with_open s f)) k ≡ at (live_frames s) k
  unfolding with_open with_stack live_frames at
  old-there s h = ap or_stuck (get_take (set s.frames s.calls f) (s.calls + 1) k (omega arith) ∙ get_other s.frames s.calls k f (λ e. omega arith) ∙ sym
      (get_take s.frames s.calls k h))

  swapped : (s : State) (g : Frame) → k < s.calls → with_frame (with_open s f) k g ≡ with_open (with_frame s k g) f
  unfolding with_frame with_open with_stack
  swapped s g h = ap (λ fs. with_stack s fs (s.calls + 1) s.activations s.depth) (set_comm s.frames s.calls k f g (λ e. omega arith))

  -- what is emptied before the frame opens may be emptied behind
  abbrev Behind : List ℕ → List ℕ → Type 0
  Behind ts rs = (s : State) → k < s.calls → s.calls < length s.frames → (emptied s k ts rs >>= opens) ≡ emptied (with_open s f) k ts rs

  pub empty-behind : (ts rs : List ℕ) → Behind ts rs
  unfolding emptied empty_if assign ◌>>=◌ with_frame with_stack
  empty-behind [] rs s h l = now-open s l
  empty-behind (t ∷ ts) [] s h l = now-open s l
  empty-behind (t ∷ ts) (r ∷ rs) s h l = go (is_owned t) (λ u a b. empty-behind ts rs u a b)
    where
      written : (o : Try Frame) → Behind ts rs → (((o >>= λ (g : Frame). got (with_frame s k g)) >>= λ u. emptied u k ts rs) >>= opens) ≡
          ((o >>= λ (g : Frame). got (with_frame (with_open s f) k g)) >>= λ u. emptied u k ts rs)
      written (got g) ih = ih (with_frame s k g) h (rw (length-set s.frames k g) l) ∙ ap (λ u. emptied u k ts rs) (sym (swapped s g h))
      written stuck ih = refl
      written (stop e) ih = refl

      there : (o : Try Frame) → Behind ts rs → (((o >>= λ (g : Frame). with_register g r Value.Empty >>= λ (g : Frame). got (with_frame s k g)) >>= λ u. emptied u k ts rs) >>= opens) ≡
          ((o >>= λ (g : Frame). with_register g r Value.Empty >>= λ (g : Frame). got (with_frame (with_open s f) k g)) >>= λ u. emptied u k ts rs)
      there (got g) ih = written (with_register g r Value.Empty) ih
      there stuck ih = refl
      there (stop e) ih = refl

      go : (b : Bool) → Behind ts rs → ((empty_if b s k r >>= λ u. emptied u k ts rs) >>= opens) ≡ (empty_if b (with_open s f) k r >>= λ u. emptied u k ts rs)
      go true ih = rw (old-there s h) (there (at (live_frames s) k) ih)
      go false ih = ih s h l

  -- Stuck: there is no place for a frame
  abbrev Roomless : List ℕ → List ℕ → Type 0
  Roomless ts rs = (s : State) → length s.frames ≤ s.calls → (emptied s k ts rs >>= opens) ≡ stuck

  pub no_room : (ts rs : List ℕ) → Roomless ts rs
  unfolding emptied empty_if assign at or_stuck with_register put stuck_unless ◌>>=◌ ◌>>◌ with_frame with_stack
  no_room [] rs s l = no_place s l
  no_room (t ∷ ts) [] s l = no_place s l
  no_room (t ∷ ts) (r ∷ rs) s l = go (is_owned t) (λ u a. no_room ts rs u a)
    where
      written : (g : Frame) (b : Bool) → Roomless ts rs → (((((stuck_unless b >> got (set g.registers r (place Value.Empty))) >>= λ ps. got
          (record { function = g.function; version = g.version; registers = ps; names = g.names })) >>= λ (g : Frame). got
          (with_frame s k g)) >>= λ u. emptied u k ts rs) >>= opens) ≡ stuck
      written g true ih = ih (with_frame s k (record { function = g.function; version = g.version; registers = set g.registers r (place Value.Empty); names = g.names }))
          (rw (length-set s.frames k (record { function = g.function; version = g.version; registers = set g.registers r (place Value.Empty); names = g.names })) l)
      written g false ih = refl

      there : (o : Option Frame) → Roomless ts rs → (((or_stuck o >>= λ (g : Frame). with_register g r Value.Empty >>= λ (g : Frame). got
          (with_frame s k g)) >>= λ u. emptied u k ts rs) >>= opens) ≡ stuck
      there (some g) ih = written g (ltb r (length g.registers)) ih
      there none ih = refl

      go : (b : Bool) → Roomless ts rs → ((empty_if b s k r >>= λ u. emptied u k ts rs) >>= opens) ≡ stuck
      go true ih = there (get_elem? (live_frames s) k) ih
      go false ih = ih s l

-- ---- `enter`

-- it was done
pub goes_on : {t : Try State} (b : List ℕ) (n : List ℤ) (b' : List ℕ) (n' : List ℤ) → t ≡ got (state_in b' n') → Does Did.On t b n b' n'
unfolding Does
goes_on b n b' n' e = e

-- an activation that was pushed
module _ (b b₁ : List ℕ) (n : List ℤ) (a : Activation) (r : Did) (h : b ! DEPTH < 32) (D : Does r (opened (state_in b n) a) b n b₁ n) where
  pushed : state_in b₁ n ≡ with_stack (state_in b n) (state_in b n).frames (state_in b n).calls (set (state_in b n).activations (state_in b n).depth a) ((state_in b n).depth + 1)
  unfolding opened end_unless ◌>>◌ state_in
  pushed = does-got r (opened (state_in b n) a) b n b₁ n D (rw (lt-ltb (b ! DEPTH) 32 h) refl)

  pub pushed-is : opened (state_in b n) a ≡ got (state_in b₁ n)
  unfolding opened end_unless ◌>>◌ state_in
  pushed-is = rw (lt-ltb (b ! DEPTH) 32 h) (ap got (sym pushed))

  pub pushed-calls : (state_in b₁ n).calls ≡ b ! CALLS
  unfolding with_stack state_in
  pushed-calls = ap (λ (s : State). s.calls) pushed

  pub pushed-frames : (state_in b₁ n).frames ≡ (state_in b n).frames
  unfolding with_stack
  pushed-frames = ap (λ (s : State). s.frames) pushed

  pub room-left : b ! CALLS < 32 → b₁ ! CALLS < 32
  unfolding state_in
  room-left l = omega (arith, l, pushed-calls)

  -- the frame that opens is live
  pub new-live : (b₂ : List ℕ) (f : Frame) {j : ℕ} → j ≡ b ! CALLS → b ! CALLS < 32 → state_in b₂ n ≡ with_open (state_in b₁ n) f → Live b₂ j
  unfolding with_open with_stack state_in
  new-live b₂ f e l E = let y : b₂ ! CALLS ≡ b₁ ! CALLS + 1 = ap (λ (s : State). s.calls) E in (omega arith, omega (arith, pushed-calls, y, e))

-- arguments leave the calls
pub pass-calls : (s t : State) (k : ℕ) (f : Frame) → t ≡ with_frame s k f → t.calls ≡ s.calls
unfolding with_frame with_stack
pass-calls s t k f e = ap (λ (s : State). s.calls) e

-- the activation of a call
abbrev pub call_by : ℕ → ℕ → Activation
call_by d j = record { opener = Opener.Call; d = d; frame = j; block = 0; next = 0 }

-- a frame that was opened behind
module _ (b b₂ : List ℕ) (n : List ℤ) (f : Frame) (E : state_in b₂ n ≡ with_open (state_in b n) f) (l : b ! CALLS < 32) where
  opened-frames : (state_in b₂ n).frames ≡ set (state_in b n).frames (b ! CALLS) f
  unfolding with_open with_stack state_in
  opened-frames = ap (λ (s : State). s.frames) E

  opened-new : frame_in b₂ n (b ! CALLS) ≡ f
  opened-new = let y = frames-long b n in frame-by b b₂ n n (b ! CALLS) l (ap (λ gs. get_elem? gs (b ! CALLS)) opened-frames ∙ get-same (state_in b n).frames (b ! CALLS) f (omega arith))

  opened-old : (k : ℕ) → k < b ! CALLS → frame_in b₂ n k ≡ frame_in b n k
  opened-old k h = let q : k < 32 = omega arith in frame-by b b₂ n n k q
      (ap (λ gs. get_elem? gs k) opened-frames ∙ get_other (state_in b n).frames (b ! CALLS) k f (λ e. omega arith) ∙ frame_is b n k q)

  -- with its arguments
  pub opened_with : (k : ℕ) (rs : List ℕ) → k < b ! CALLS → Small rs → passed_on b₂ n k (b ! CALLS) rs ≡ with_open (state_in b n) (with_arguments f (held_by b n k rs))
  unfolding with_frame with_open with_stack state_in
  opened_with k rs h S =
      let v = held_same b b₂ n n k rs S (opened-old k h) in
      let g : with_arguments (frame_in b₂ n (b ! CALLS)) (held_by b₂ n k rs) ≡ with_arguments f (held_by b n k rs) = λ t. with_arguments (opened-new t) (v t) in
      (λ t. with_frame (E t) (b ! CALLS) (g t)) ∙ ap (λ fs. with_stack (state_in b n) fs (b ! CALLS + 1) (state_in b n).activations (state_in b n).depth)
      (set_twice (state_in b n).frames (b ! CALLS) f (with_arguments f (held_by b n k rs)))

module _ (W : Version) (b : List ℕ) (n : List ℤ) (k d : ℕ) (rs : List ℕ) where
  module _ (A : AllFull b n k rs) where
    enter-from : entered (state_in b n) k (frame_in b n k) d W rs ≡ enter (state_in b n) k d W rs (held_by b n k rs)
    unfolding ◌>>=◌
    enter-from = rw A.0 refl

    pub enter-deep : 32 ≤ b ! DEPTH → entered (state_in b n) k (frame_in b n k) d W rs ≡ stop End.Deep
    unfolding enter opened end_unless ◌>>◌ ◌>>=◌ state_in
    enter-deep h = enter-from ∙ rw (le-ltb (b ! DEPTH) 32 h) refl

    pub enter-full : b ! DEPTH < 32 → 32 ≤ b ! CALLS → entered (state_in b n) k (frame_in b n k) d W rs ≡ stuck
    unfolding enter opened end_unless ◌>>◌ ◌>>=◌ state_in with_stack
    enter-full h l = enter-from ∙ rw (lt-ltb (b ! DEPTH) 32 h) (no_room (frame_for W (held_by b n k rs)) k (parameter_types W) rs _ (rw (frames-long b n) l))

    module _ (b₁ b₂ b₃ b₄ : List ℕ) (n₃ : List ℤ) (r : Did) {g w : ℕ} (m : ℕ) (o : W.function ≡ g) (p : W.version ≡ w) (q : Marks m (parameter_types W) rs) where
      module _ (h : b ! DEPTH < 32) (l : b ! CALLS < 32) (y : k < b ! CALLS) (D : Does r (opened (state_in b n) (call_by d (b ! CALLS))) b n b₁ n) where
        by_state : Does r (opened (state_in b n) (call_by d (state_in b n).calls)) b n b₁ n
        unfolding state_in
        by_state = D

        calls_same : b₁ ! CALLS ≡ b ! CALLS
        unfolding state_in
        calls_same = pushed-calls b b₁ n _ r h D

        frames-same : (state_in b₁ n).frames ≡ (state_in b n).frames
        frames-same = pushed-frames b b₁ n _ r h D

        room : (state_in b₁ n).calls < length (state_in b₁ n).frames
        unfolding state_in
        room = let y = frames-long b₁ n in omega (arith, y, l, calls_same)

        older : k < (state_in b₁ n).calls
        unfolding state_in
        older = omega (arith, y, calls_same)

        rest : enter (state_in b n) k d W rs (held_by b n k rs) ≡ (emptied (state_in b₁ n) k (parameter_types W) rs >>= opens (frame_for W (held_by b n k rs)) k)
        unfolding enter ◌>>=◌
        rest = rw (pushed-is b b₁ n (call_by d (state_in b n).calls) r h by_state) refl

        frame_same : frame_in b₁ n k ≡ frame_in b n k
        frame_same = let z : k < 32 = omega arith in frame-by b b₁ n n k z (ap (λ gs. get_elem? gs k) frames-same ∙ frame_is b n k z)

        opens-new : state_in b₂ n ≡ with_open (state_in b₁ n) (new_frame g w) → state_in b₃ n₃ ≡ passed_on b₂ n k (b ! CALLS) rs → state_in b₃ n₃ ≡ with_open (state_in b₁ n)
            (frame_for W (held_by b n k rs))
        unfolding with_arguments frame_for
        opens-new E F =
            let x : b₁ ! CALLS < 32 = omega (arith, l, calls_same) in
            let z : k < b₁ ! CALLS = omega (arith, y, calls_same) in
            let v = held_same b b₁ n n k rs A.1 frame_same in
            F ∙ ap (λ j. passed_on b₂ n k j rs) (sym calls_same) ∙ opened_with b₁ b₂ n (new_frame g w) E x k rs z A.1 ∙
            (λ t. with_open (state_in b₁ n) (with_arguments (new_frame (sym o t) (sym p t)) (v t)))

        pub enter-done : {j : ℕ} → j ≡ b ! CALLS → state_in b₂ n ≡ with_open (state_in b₁ n) (new_frame g w) → state_in b₃ n₃ ≡ passed_on b₂ n k j rs → masked (state_in b₃ n₃) k m rs ≡ got
            (state_in b₄ n₃)
            → entered (state_in b n) k (frame_in b n k) d W rs ≡ got (state_in b₄ n₃)
        enter-done x E F G =
            let e = sym (opens-new E (F ∙ ap (λ j. passed_on b₂ n k j rs) x)) in
            enter-from ∙ rest ∙ empty-behind (frame_for W (held_by b n k rs)) k (parameter_types W) rs (state_in b₁ n) older room ∙ ap (λ (s : State). emptied s k (parameter_types W) rs) e
            ∙ mask-types (state_in b₃ n₃) k m (parameter_types W) rs q ∙ G
