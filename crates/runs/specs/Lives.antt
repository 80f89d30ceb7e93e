-- What a step does to the live calls, for every program and every state, as the section "What demand 3 speaks of" has it: the statement alone.
use Rattle.std.specs.Prelude.{◌≡◌, ◌≢◌, ◌⊎◌, List, Bool, true, false, not, ℕ, ◌+◌, ℤ, Ok}
use Rattle.std.proofs.Math.Option.{Option, none, some}
use Rattle.std.proofs.Math.ListN.{get_elem?}
use Rattle.program.specs.Program.{Argument, Instr, LIT, MOVE, USE, DUP, VEC, LEN, GET, SET, ARITH, SELECT, CAST, NAMED, STORE, PROM, FORCE, PEEK, POKE, CALL, DISPATCH, SKIP, Program}
use Rattle.machine.specs.Try.{got}
use Rattle.machine.specs.States.{live_frames}
use Rattle.machine.specs.Steps.{Here, Position, instruction, block_end, here, position_of, advance}
use Rattle.machine.specs.Runs.{step_of}
use Rattle.machine.specs.Begin.{begin_of}
use Rattle.machine.specs.declared.Activation.{Activation}
use Rattle.machine.specs.declared.End.{End}
use Rattle.machine.specs.declared.Frame.{Frame}
use Rattle.machine.specs.declared.Opener.{Opener}
use Rattle.machine.specs.declared.Said.{Said}
use Rattle.machine.specs.declared.State.{State}
use Rattle.machine.specs.declared.Status.{Status}

-- ---- the calls of a state

-- the function and the version of a frame
unfoldable pub numbers : Option Frame → Option (ℕ × ℕ)
numbers none = none
numbers (some f) = some (f.function, f.version)

-- those of the call k; none where it is not live in s
unfoldable pub call_at : State → ℕ → Option (ℕ × ℕ)
call_at s k = numbers (get_elem? (live_frames s) k)

-- the same calls are live in t as in s, each with its numbers
pub record Stays (s t : State) : Type 0 where
  pub count : t.calls ≡ s.calls
  pub same : (k : ℕ) → call_at t k ≡ call_at s k

-- one more is live in t, the newest, of the version w of the function f
pub record Enters (s t : State) (f w : ℕ) : Type 0 where
  pub count : t.calls ≡ s.calls + 1
  pub new : call_at t s.calls ≡ some (f, w)
  pub same : (k : ℕ) → k ≢ s.calls → call_at t k ≡ call_at s k

-- the newest, n, is no longer live in t
pub record Leaves (s t : State) (n : ℕ) : Type 0 where
  pub count : t.calls ≡ n
  pub gone : call_at t n ≡ none
  pub same : (k : ℕ) → k ≢ n → call_at t k ≡ call_at s k

-- DONE, with an integer or a vector
unfoldable pub is_done : End → Bool
is_done (End.Integer z) = true
is_done (End.Vector n) = true
is_done End.Undef = false
is_done End.Deep = false
is_done End.Vectors = false
is_done End.Promises = false

-- the lowest activation has ended: no call is live in t, and the run is DONE
pub record Finishes (s t : State) : Type 0 where
  pub lowest : s.depth ≡ 1
  pub count : t.calls ≡ 0
  pub gone : (k : ℕ) → call_at t k ≡ none
  pub end : End
  pub done : is_done end ≡ true
  pub status : t.status ≡ Status.Ended end

-- a call's activation a has ended: it stood in block 0 of the newest frame
pub record Ends (s t : State) (a : Activation) : Type 0 where
  pub body : a.block ≡ 0
  pub newest : a.frame + 1 ≡ s.calls
  pub left : Leaves s t a.frame ⊎ Finishes s t

-- ---- one step

-- CALL or DISPATCH
unfoldable pub is_call : Instr → Bool
is_call (LIT d i) = false
is_call (MOVE d a) = false
is_call (USE d a) = false
is_call (DUP d a) = false
is_call (VEC d rs) = false
is_call (LEN d a) = false
is_call (GET d a i) = false
is_call (SET a i e) = false
is_call (ARITH d op a b) = false
is_call (SELECT d c a b) = false
is_call (CAST d a) = false
is_call (NAMED d x) = false
is_call (STORE x a) = false
is_call (PROM d block) = false
is_call (FORCE d a) = false
is_call (PEEK d a x) = false
is_call (POKE a x e) = false
is_call (CALL d f w rs) = true
is_call (DISPATCH d f mark ret pairs) = true
is_call (SKIP a n) = false

-- by a step from s to t, by where its activation a stands; nothing else can happen
pub data Happens (s t : State) (a : Activation) : Position → Type 0 where
  -- Each other call is entered by the CALL
  calls : (d f w : ℕ) (rs : List ℕ) → Enters s t f w → Happens s t a (instruction (CALL d f w rs))
  -- or DISPATCH step that opens its frame.
  dispatches : (d f mark ret : ℕ) (pairs : List Argument) (w : ℕ) → Enters s t f w → Happens s t a (instruction (DISPATCH d f mark ret pairs))
  -- A call ends with the step at the end of its block 0
  ends : a.opener ≡ Opener.Call → Ends s t a → Happens s t a block_end
  -- and is live until then: at the end of a forced block,
  stays : (p : ℕ) → a.opener ≡ Opener.Force p → Stays s t → Happens s t a block_end
  -- and at any other instruction.
  steps : (i : Instr) → is_call i ≡ false → Stays s t → Happens s t a (instruction i)

-- by a step from s to t: s stands at a place, and what stands there decides
pub record Lives (P : Program) (s t : State) : Type 0 where
  pub place : Here
  pub stands : here P s ≡ got place
  pub happens : Happens s t place.activation (position_of place)

-- the calls, with all that their frames hold, and the activations are in t what they are in s
pub record Unmoved (s t : State) : Type 0 where
  pub frames : t.frames ≡ s.frames
  pub count : t.calls ≡ s.calls
  pub activations : t.activations ≡ s.activations
  pub depth : t.depth ≡ s.depth

-- a step of an ended run; or one that says stuck, UNDEF, DEEP, VECTORS or PROMISES
unfoldable pub idle : Status → Said → Bool
idle (Status.Ended e) d = true
idle Status.Running Said.GoesOn = false
idle Status.Running (Said.Ended e) = not (is_done e)
idle Status.Running Said.Stuck = true

-- ---- the laws

-- The first call is entered as the run begins, of the version v of the function f.
unfoldable pub FirstCall : Type 0
FirstCall = (image : List ℕ) (level f v : ℕ) (words buffer : List ℤ) → let b = begin_of image level f v words buffer in b.entry ≡ Ok tt → (b.state.calls ≡ 1)
    × (call_at b.state 0 ≡ some (f, v))

-- Each step that has a result t
unfoldable pub Advances : Type 0
Advances = (P : Program) (s t : State) → advance P s ≡ got t → Lives P s t

-- and so each step: it moves the calls, or leaves them.
pub record Moves (P : Program) (s : State) : Type 0 where
  pub moved : idle s.status (step_of P s).said ≡ false → Lives P s (step_of P s).state
  -- UNDEF, DEEP, VECTORS and PROMISES end no call.
  pub unmoved : idle s.status (step_of P s).said ≡ true → Unmoved s (step_of P s).state
