-- Demand 3, as the section "What demand 3 speaks of" has it, with the changes of 02, 3 among the events: the statement alone.
use Rattle.std.specs.Prelude.{◌≡◌, ◌≢◌, ◌⊎◌, Bool, true, false, ◌&&◌, ℕ, ◌<◌, ℤ, eqb, Ok}
use mathlib.Core.List.{List, Memᴰ}
use Rattle.std.proofs.Math.Option.{Option, none, some}
use Rattle.std.proofs.Math.ListN.{get_elem?}
use Rattle.program.specs.Program.{Instr, LIT, MOVE, USE, DUP, VEC, LEN, GET, SET, ARITH, SELECT, CAST, NAMED, STORE, PROM, FORCE, PEEK, POKE, CALL, DISPATCH, SKIP, Version}
use Rattle.program.specs.Program.{Program, find_version, mark_of}
use Rattle.rules.specs.Types.{kind_of, is_owned, is_borrowed, within}
use Rattle.machine.specs.Try.{Try, got, stuck, stop, ◌>>=◌}
use Rattle.machine.specs.States.{kind_in, live_frames, register, named}
use Rattle.machine.specs.Steps.{Position, instruction, block_end, outside, here, position_of}
use Rattle.machine.specs.Runs.{last_step, step_of}
use Rattle.machine.specs.Begin.{begin_of}
use Rattle.machine.specs.Events.{Run, Event, program_in, after, history}
use Rattle.machine.specs.declared.Frame.{Frame}
use Rattle.machine.specs.declared.Said.{Said}
use Rattle.machine.specs.declared.State.{State}
use Rattle.machine.specs.declared.Status.{Status}
use Rattle.machine.specs.declared.Value.{Value}

-- ---- reflective reads and writes

-- a step that counts
unfoldable pub counted : Said → Bool
counted Said.GoesOn = true
counted (Said.Ended e) = eqb (last_step e) 1
counted Said.Stuck = false

-- the run goes on
unfoldable pub running : Status → Bool
running Status.Running = true
running (Status.Ended e) = false

-- PEEK or POKE
unfoldable pub is_access : Instr → Bool
is_access (LIT d i) = false
is_access (MOVE d a) = false
is_access (USE d a) = false
is_access (DUP d a) = false
is_access (VEC d rs) = false
is_access (LEN d a) = false
is_access (GET d a i) = false
is_access (SET a i e) = false
is_access (ARITH d op a b) = false
is_access (SELECT d c a b) = false
is_access (CAST d a) = false
is_access (NAMED d x) = false
is_access (STORE x a) = false
is_access (PROM d block) = false
is_access (FORCE d a) = false
is_access (PEEK d a x) = true
is_access (POKE a x e) = true
is_access (CALL d f w rs) = false
is_access (DISPATCH d f mark ret pairs) = false
is_access (SKIP a n) = false

-- the run stands at a PEEK or POKE
unfoldable pub at_access : Try Position → Bool
at_access stuck = false
at_access (stop e) = false
at_access (got outside) = false
at_access (got block_end) = false
at_access (got (instruction i)) = is_access i

-- the step tried in s is a counted step of PEEK or POKE in any activation, one that makes UNDEF too
unfoldable pub reflective : Program → State → Bool
reflective P s = running s.status && at_access (here P s >>= λ h. got (position_of h)) && counted (step_of P s).said

-- ---- live calls

-- the call k is live in s, with the frame f; calls above it have a greater k. That only the step that enters a call adds it and only
-- the one at the end of its block 0 takes it away is a law of its own
abbrev pub Live : State → ℕ → Frame → Type 0
Live s k f = get_elem? (live_frames s) k ≡ some f

-- the version that a call entered; its frame keeps the numbers
unfoldable pub entered : Program → Frame → Option Version
entered P f = find_version P f.function f.version

-- a call is quiet when the version entered has mark 0 (and, to be safe, when there is no such version)
unfoldable pub is_quiet : Option Version → Bool
is_quiet none = true
is_quiet (some W) = eqb (mark_of W) 0

-- the register r of the frame f is declared, with the type t
pub record Declared (P : Program) (f : Frame) (r t : ℕ) : Type 0 where
  pub version : Version
  pub found : entered P f ≡ some version
  pub typed : get_elem? version.types r ≡ some t

-- nothing, or a value whose kind is within the type's
pub data OfType (P : Program) (s : State) (t : ℕ) : Value → Type 0 where
  nothing : OfType P s t Value.Empty
  of_kind : (v : Value) (k : ℕ) → kind_in P s v ≡ got k → within k (kind_of t) ≡ true → OfType P s t v

-- the register r of the live call k is owned and holds the vector at the place v
pub record Owns (P : Program) (s : State) (k r v : ℕ) : Type 0 where
  pub frame : Frame
  pub type : ℕ
  pub live : Live s k frame
  pub declared : Declared P frame r type
  pub owned : is_owned type ≡ true
  pub holds : register frame r ≡ got (Value.Vector v)

-- the register r is a borrowed one
pub record Borrows (P : Program) (f : Frame) (r : ℕ) : Type 0 where
  pub type : ℕ
  pub declared : Declared P f r type
  pub borrowed : is_borrowed type ≡ true

-- ---- the claim

-- of a run under the image in force now, and the history that led to it, each under the one in force then; each field is a sentence of the demand, but the first, without which they could be empty
pub record Safe (h : List Run) (now : Run) : Type 0 where
  -- Every live call is one of a version of the image in force.
  pub known : (k : ℕ) (f : Frame) → Live now.state k f → (W : Version) × (entered (program_in now) f ≡ some W)
  -- Every register that a live call's version declares holds nothing or a value of its declared type.
  pub typed : (k r t : ℕ) (f : Frame) → Live now.state k f → Declared (program_in now) f r t → (v : Value) × (register f r ≡ got v) × OfType (program_in now) now.state t v
  -- No step was stuck, neither a single one nor one inside a budget.
  pub unstuck : (b : Run) → Memᴰ b h → (step_of (program_in b) b.state).said ≢ Said.Stuck
  -- A vector in an owned register is in no name
  pub unnamed : (k r v : ℕ) → Owns (program_in now) now.state k r v → (k' x : ℕ) (f' : Frame) → Live now.state k' f' → named f' x ≢ got (Value.Vector v)
  -- and in no other register, except borrowed ones of calls above it.
  pub owned : (k r v : ℕ) → Owns (program_in now) now.state k r v → (k' r' : ℕ) (f' : Frame) → Live now.state k' f' → register f' r' ≡ got (Value.Vector v)
      → ((k' ≡ k) × (r' ≡ r)) ⊎ ((k < k') × Borrows (program_in now) f' r')
  -- Between the entry and the end of a call of mark 0, or up to now, no reflective read or write took place:
  -- where one was tried, no call that was live then is quiet, judged under the image in force at that step; `StayLong` says that this is the version entered.
  pub quiet : (b : Run) → Memᴰ b h → reflective (program_in b) b.state ≡ true → (k : ℕ) (f : Frame) → Live b.state k f → is_quiet (entered (program_in b) f) ≡ false

-- the run that begin gives, under its image
abbrev pub begun : List ℕ → ℕ → ℕ → ℕ → List ℤ → List ℤ → Run
begun image level f v words buffer = record { image = image; state = (begin_of image level f v words buffer).state }

-- After every list of steps, budgets and changes from the state of every run that begin did not refuse; begin puts the questions to the image too
unfoldable pub Demand3 : Type 0
Demand3 =
    (image : List ℕ) (level f v : ℕ) (words buffer : List ℤ) → (begin_of image level f v words buffer).entry ≡ Ok tt
    → (events : List Event)
    → let r = begun image level f v words buffer in Safe (history events r) (after events r)
