-- The cells of a frame: its registers and, behind them, its names; all that the proof knows of frames.
use mathlib.Core.Path.{◌≡◌, refl, ap, ◌∙◌}
use mathlib.Core.Logic.{◌≢◌, ◌⊎◌, inl, inr}
use mathlib.Core.List.{List}
use mathlib.Core.Bool.{Bool, true, false, cond}
use Prim.Native.Nat.{ℕ, ◌+◌, ◌-◌, ◌≤◌, ◌<◌}
use native.Mathlib.Decide.{ℕ_discrete}
use native.Mathlib.Omega.{arith}
use lib.ListN.{length, get_or, set, take, length-set, get_or-eq_default}
use lib.Seq.{get_or-set_same, get_or-set_other}
use lib.Dec.{ltb}
use borrow.Author.Tests.{lt-ltb, le-ltb, ltb-true, ltb-false}
use Rattle.layout.specs.Bounds.{REGISTERS, NAMES}
use Rattle.layout.proofs.Lists.{get-some, get_take}
use Rattle.machine.proofs.Tries.{at_in, at_some, put_in}
use Rattle.machine.specs.Try.{got, ◌>>=◌, at}
use Rattle.machine.specs.States.{ACTIVATIONS, place, new_frame, live_frames, register, named, with_stack, with_frame, with_register, with_name, assign, store}
use Rattle.machine.specs.declared.Frame.{Frame}
use Rattle.machine.specs.declared.Place.{Place}
use Rattle.machine.specs.declared.State.{State}
use Rattle.machine.specs.declared.Value.{Value}

-- how many cells a frame has
abbrev pub CELLS : ℕ
CELLS = 24

-- a default, not unfolded in proofs: they know it through the getters below
pub no_frame : Frame
no_frame = new_frame 0 0

unfoldable pub frame_at : List Frame → ℕ → Frame
frame_at fs k = get_or fs k no_frame

unfoldable pub cell : Frame → ℕ → Value
cell f c = cond (ltb c REGISTERS) (get_or f.registers c (place Value.Empty)).value (get_or f.names (c - REGISTERS) (place Value.Empty)).value

unfoldable pub cell_at : List Frame → ℕ → ℕ → Value
cell_at fs k c = cell (frame_at fs k) c

-- the cell c put to v
unfoldable pub write : Frame → ℕ → Value → Frame
write f c v = cond (ltb c REGISTERS)
    (record { function = f.function; version = f.version; registers = set f.registers c (place v); names = f.names })
    (record { function = f.function; version = f.version; registers = f.registers; names = set f.names (c - REGISTERS) (place v) })

unfoldable pub write_at : List Frame → ℕ → ℕ → Value → List Frame
write_at fs k c v = set fs k (write (frame_at fs k) c v)

-- the state with a cell put to v
unfoldable pub wrote : State → ℕ → ℕ → Value → State
wrote s k c v = with_stack s (write_at s.frames k c v) s.calls s.activations s.depth

-- as many places as are declared
pub record Whole (f : Frame) : Type 0 where
  pub registers : length f.registers ≡ REGISTERS
  pub names : length f.names ≡ NAMES

pub record Sized (fs : List Frame) : Type 0 where
  pub frames : length fs ≡ ACTIVATIONS
  pub whole : (k : ℕ) → k < ACTIVATIONS → Whole (frame_at fs k)

-- ---- one frame

is-register : (c : ℕ) → (ltb c REGISTERS ≡ true) ⊎ (ltb c REGISTERS ≡ false)
is-register c = go (ltb c REGISTERS) refl
  where
    go : (b : Bool) → ltb c REGISTERS ≡ b → (ltb c REGISTERS ≡ true) ⊎ (ltb c REGISTERS ≡ false)
    go true e = inl e
    go false e = inr e

module _ (f : Frame) (w : Whole f) (c : ℕ) (v : Value) (h : c < CELLS) where
  pub cell_same : cell (write f c v) c ≡ v
  unfolding cell write
  cell_same = go (is-register c)
    where
      go : (ltb c REGISTERS ≡ true) ⊎ (ltb c REGISTERS ≡ false) → cell (write f c v) c ≡ v
      go (inl e) = rw e (ap (λ (p : Place). p.value) (get_or-set_same f.registers c (place v) (place Value.Empty) (omega (arith, w.registers, ltb-true c REGISTERS e))))
      go (inr e) = rw e (ap (λ (p : Place). p.value) (get_or-set_same f.names (c - REGISTERS) (place v) (place Value.Empty) (omega (arith, w.names, ltb-false c REGISTERS e))))

  pub cell_other : (c' : ℕ) → c' ≢ c → cell (write f c v) c' ≡ cell f c'
  unfolding cell write
  cell_other c' n = go (is-register c) (is-register c')
    where
      go : (ltb c REGISTERS ≡ true) ⊎ (ltb c REGISTERS ≡ false) → (ltb c' REGISTERS ≡ true) ⊎ (ltb c' REGISTERS ≡ false) → cell (write f c v) c' ≡ cell f c'
      go (inl e) (inl e') = rw (e, e') (ap (λ (p : Place). p.value) (get_or-set_other f.registers c c' (place v) (place Value.Empty) n))
      go (inl e) (inr e') = rw (e, e') refl
      go (inr e) (inl e') = rw (e, e') refl
      go (inr e) (inr e') = rw (e, e') (ap (λ (p : Place). p.value) (get_or-set_other f.names (c - REGISTERS) (c' - REGISTERS) (place v) (place Value.Empty) (λ q. n (omega (arith, ltb-false c REGISTERS e, ltb-false c' REGISTERS e')))))

  pub write-whole : Whole (write f c v)
  unfolding write
  write-whole = go (is-register c)
    where
      go : (ltb c REGISTERS ≡ true) ⊎ (ltb c REGISTERS ≡ false) → Whole (write f c v)
      go (inl e) = rw e (record { registers = length-set f.registers c (place v) ∙ w.registers; names = w.names })
      go (inr e) = rw e (record { registers = w.registers; names = length-set f.names (c - REGISTERS) (place v) ∙ w.names })

  pub write-function : (write f c v).function ≡ f.function
  unfolding write
  write-function = go (is-register c)
    where
      go : (ltb c REGISTERS ≡ true) ⊎ (ltb c REGISTERS ≡ false) → (write f c v).function ≡ f.function
      go (inl e) = rw e refl
      go (inr e) = rw e refl

  pub write-version : (write f c v).version ≡ f.version
  unfolding write
  write-version = go (is-register c)
    where
      go : (ltb c REGISTERS ≡ true) ⊎ (ltb c REGISTERS ≡ false) → (write f c v).version ≡ f.version
      go (inl e) = rw e refl
      go (inr e) = rw e refl

-- a cell that no frame has is empty
pub cell_out : (f : Frame) → Whole f → (c : ℕ) → CELLS ≤ c → cell f c ≡ Value.Empty
unfolding cell
cell_out f w c h = rw (le-ltb c REGISTERS (omega arith)) (ap (λ (p : Place). p.value) (get_or-eq_default f.names (place Value.Empty) {n = c - REGISTERS} (omega (arith, w.names))))

pub register-is : (f : Frame) → Whole f → (r : ℕ) → r < REGISTERS → register f r ≡ got (cell f r)
unfolding register cell ◌>>=◌
register-is f w r h = rw (at_in f.registers r (place Value.Empty) (omega (arith, w.registers)), lt-ltb r REGISTERS h) refl

pub named-is : (f : Frame) → Whole f → (x : ℕ) → x < NAMES → named f x ≡ got (cell f (REGISTERS + x))
unfolding named cell ◌>>=◌
named-is f w x h = let m : REGISTERS + x - REGISTERS ≡ x = omega arith in rw (at_in f.names x (place Value.Empty) (omega (arith, w.names)), le-ltb (REGISTERS + x) REGISTERS (omega arith), m) refl

-- ---- the frames of a state

-- two places are one, or differ
unfoldable pub Apart : ℕ → ℕ → ℕ → ℕ → Type 0
Apart k c k' c' = k' ≡ k → c' ≡ c → ⊥

pub place? : (k c k' c' : ℕ) → ((k' ≡ k) × (c' ≡ c)) ⊎ Apart k c k' c'
unfolding Apart
place? k c k' c' = go (ℕ_discrete k' k) (ℕ_discrete c' c)
  where
    go : Dec (k' ≡ k) → Dec (c' ≡ c) → ((k' ≡ k) × (c' ≡ c)) ⊎ (k' ≡ k → c' ≡ c → ⊥)
    go (yes p) (yes q) = inl (p, q)
    go (yes p) (no q) = inr (λ _ e. q e)
    go (no p) (yes q) = inr (λ e _. p e)
    go (no p) (no q) = inr (λ e _. p e)

module _ (fs : List Frame) (sz : Sized fs) (k : ℕ) (g : Frame) (hk : k < ACTIVATIONS) where
  pub set_same : frame_at (set fs k g) k ≡ g
  unfolding frame_at
  set_same = get_or-set_same fs k g no_frame (omega (arith, sz.frames))

  pub set_other : (k' : ℕ) → k' ≢ k → frame_at (set fs k g) k' ≡ frame_at fs k'
  unfolding frame_at
  set_other k' h = get_or-set_other fs k k' g no_frame h

  pub set-sized : Whole g → Sized (set fs k g)
  set-sized w = record { frames = length-set fs k g ∙ sz.frames; whole = λ k' h. go k' h (ℕ_discrete k' k) }
    where
      go : (k' : ℕ) → k' < ACTIVATIONS → Dec (k' ≡ k) → Whole (frame_at (set fs k g) k')
      go k' h (yes e) = rw (e, set_same) w
      go k' h (no e) = rw (set_other k' e) (sz.whole k' h)

module _ (fs : List Frame) (sz : Sized fs) (k c : ℕ) (v : Value) (hk : k < ACTIVATIONS) (hc : c < CELLS) where
  frame_same : frame_at (write_at fs k c v) k ≡ write (frame_at fs k) c v
  unfolding write_at
  frame_same = set_same fs sz k (write (frame_at fs k) c v) hk

  frame-other : (k' : ℕ) → k' ≢ k → frame_at (write_at fs k c v) k' ≡ frame_at fs k'
  unfolding write_at
  frame-other k' h = set_other fs sz k (write (frame_at fs k) c v) hk k' h

  pub at_same : cell_at (write_at fs k c v) k c ≡ v
  unfolding cell_at
  at_same = rw frame_same (cell_same (frame_at fs k) (sz.whole k hk) c v hc)

  pub at_other : (k' c' : ℕ) → Apart k c k' c' → cell_at (write_at fs k c v) k' c' ≡ cell_at fs k' c'
  unfolding cell_at Apart
  at_other k' c' h = go (ℕ_discrete k' k)
    where
      go : Dec (k' ≡ k) → cell_at (write_at fs k c v) k' c' ≡ cell_at fs k' c'
      go (yes e) = rw (e, frame_same) (cell_other (frame_at fs k) (sz.whole k hk) c v hc c' (h e))
      go (no e) = rw (frame-other k' e) refl

  pub at-function : (k' : ℕ) → (frame_at (write_at fs k c v) k').function ≡ (frame_at fs k').function
  at-function k' = go (ℕ_discrete k' k)
    where
      go : Dec (k' ≡ k) → (frame_at (write_at fs k c v) k').function ≡ (frame_at fs k').function
      go (yes e) = rw (e, frame_same) (write-function (frame_at fs k) (sz.whole k hk) c v hc)
      go (no e) = rw (frame-other k' e) refl

  pub at-version : (k' : ℕ) → (frame_at (write_at fs k c v) k').version ≡ (frame_at fs k').version
  at-version k' = go (ℕ_discrete k' k)
    where
      go : Dec (k' ≡ k) → (frame_at (write_at fs k c v) k').version ≡ (frame_at fs k').version
      go (yes e) = rw (e, frame_same) (write-version (frame_at fs k) (sz.whole k hk) c v hc)
      go (no e) = rw (frame-other k' e) refl

  pub write-sized : Sized (write_at fs k c v)
  unfolding write_at
  write-sized = set-sized fs sz k (write (frame_at fs k) c v) hk (write-whole (frame_at fs k) (sz.whole k hk) c v hc)

  -- what holds of the new value at its place, and of every other place as it was, holds everywhere
  pub write-all : (Q : ℕ → ℕ → Value → Type 0) → Q k c v → ((k' c' : ℕ) → Apart k c k' c' → Q k' c' (cell_at fs k' c')) → (k' c' : ℕ) → Q k' c' (cell_at (write_at fs k c v) k' c')
  write-all Q new old k' c' = go (place? k c k' c')
    where
      go : ((k' ≡ k) × (c' ≡ c)) ⊎ Apart k c k' c' → Q k' c' (cell_at (write_at fs k c v) k' c')
      go (inl e) = rw (e.0, e.1, at_same) new
      go (inr h) = rw (at_other k' c' h) (old k' c' h)

pub at_out : (fs : List Frame) → Sized fs → (k c : ℕ) → k < ACTIVATIONS → CELLS ≤ c → cell_at fs k c ≡ Value.Empty
unfolding cell_at
at_out fs sz k c hk hc = cell_out (frame_at fs k) (sz.whole k hk) c hc

-- ---- the state's own look-ups and writes

module _ (s : State) (sz : Sized s.frames) (k : ℕ) (hk : k < s.calls) (hn : s.calls ≤ ACTIVATIONS) where
  pub frame_is : at (live_frames s) k ≡ got (frame_at s.frames k)
  unfolding live_frames frame_at
  frame_is = at_some (take s.calls s.frames) k (get_or s.frames k no_frame) (get_take s.frames s.calls k hk ∙ get-some s.frames k no_frame (omega (arith, sz.frames)))

  pub assign-is : (d : ℕ) (v : Value) → d < REGISTERS → assign s k d v ≡ got (wrote s k d v)
  unfolding assign with_register with_frame wrote write_at write ◌>>=◌
  assign-is d v h = rw (frame_is, put_in (frame_at s.frames k).registers d (place v) (omega (arith, (sz.whole k (omega arith)).registers)), lt-ltb d REGISTERS h) refl

  pub store_is : (x : ℕ) (v : Value) → x < NAMES → store s k x v ≡ got (wrote s k (REGISTERS + x) v)
  unfolding store with_name with_frame wrote write_at write ◌>>=◌
  store_is x v h = let m : REGISTERS + x - REGISTERS ≡ x = omega arith in
      rw (frame_is, put_in (frame_at s.frames k).names x (place v) (omega (arith, (sz.whole k (omega arith)).names)), le-ltb (REGISTERS + x) REGISTERS (omega arith), m) refl
