-- What the end of a block does to the state.
use Rattle.std.specs.Prelude.{List, ◌≡◌, Bool, ℕ, ◌+◌, ◌-◌, ◌<◌, ◌≤◌, ℤ, length, set, Option}
use Rattle.layout.specs.Records.{◌!◌}
use Rattle.program.specs.Program.{Program, Version}
use Rattle.rules.specs.Types.{kind_of, within}
use Rattle.machine.specs.Calls.{back, closed, done, finish}
use Rattle.machine.specs.States.{items_of, kind_in, value, with_end}
use Rattle.machine.specs.Try.{Try, got, stuck, ◌>>=◌}
use Rattle.machine.specs.declared.End.{End}
use Rattle.machine.specs.declared.Frame.{Frame}
use Rattle.machine.specs.declared.Opener.{Opener}
use Rattle.machine.specs.declared.State.{State}
use Rattle.machine.specs.declared.Status.{Status}
use Rattle.store.specs.Store.{CALLS, DEPTH, STATUS, Sized, activation_in, cell_in, frame_in, state_in, vector_in}
use Rattle.store.specs.Counts.{Ready}
use Rattle.store.specs.Answers.{end_of}
use Rattle.store.specs.declared.Halt.{Halt}
use Rattle.acts.specs.Typed.{typed_of}
use Rattle.ending.specs.declared.Ended.{Ended}

-- ---- what was done

-- t is what the machine's definitions come to in the state of b and n; b' and n' are left, which are b and n where it is stuck
unfoldable pub Comes : Ended → Try State → List ℕ → List ℤ → List ℕ → List ℤ → Type 0
Comes Ended.Back t b n b' n' = t ≡ got (state_in b' n')
Comes Ended.Done t b n b' n' = t ≡ got (state_in b' n')
Comes Ended.Stuck t b n b' n' = (t ≡ stuck) × (b' ≡ b) × (n' ≡ n)

-- the run has ended, with which the counts end
abbrev pub Over : List ℕ → List ℤ → Type 0
Over b n = Sized b n × ((e : End) × ((state_in b n).status ≡ Status.Ended e))

-- what is left to go on with
unfoldable pub Left : Ended → List ℕ → List ℤ → List ℕ → Type 0
Left Ended.Back b n c = Ready b n c
Left Ended.Done b n c = Over b n
Left Ended.Stuck b n c = Ready b n c

-- ---- the activation on top

-- it is there and works in the frame k
pub record Working (b : List ℕ) (k : ℕ) : Type 0 where
  pub depth : 0 < b ! DEPTH
  pub low : b ! DEPTH ≤ 32
  pub frame : (activation_in b (b ! DEPTH - 1)).frame ≡ k
  pub few : k < 32

-- what opened it
abbrev pub top_opener : List ℕ → Opener
top_opener b = (activation_in b (b ! DEPTH - 1)).opener

-- it ends with the register r of the frame k
abbrev pub ended_by : Program → Version → List ℕ → List ℤ → ℕ → ℕ → Opener → Try State
ended_by P W b n k r o = value (frame_in b n k) r >>= λ v. finish P (state_in b n) (activation_in b (b ! DEPTH - 1)) W v o

-- a force of the promise p, in whatever version and program
abbrev pub ForceEnds : Ended → List ℕ → List ℤ → List ℕ → List ℤ → List ℕ → ℕ → ℕ → ℕ → Type 0
ForceEnds x b n b' n' c' k r p = ((P : Program) (W : Version) → Comes x (ended_by P W b n k r (Opener.Force p)) b n b' n') × Left x b' n' c'

-- is what the register r holds of the kind that the version returns?
unfoldable pub returns_in : Program → Version → State → Frame → ℕ → Try Bool
returns_in P W s f r = do
  v ← value f r
  m ← kind_in P s v
  got (within m (kind_of W.return))

-- the code is told right of what the register r of the frame k holds
abbrev pub ReturnTold : Option Bool → Program → Version → List ℕ → List ℤ → ℕ → ℕ → Type 0
ReturnTold t P W b n k r = returns_in P W (state_in b n) (frame_in b n k) r ≡ typed_of t

-- a call, in each program and version where the code is told right
abbrev pub CallEnds : Option Bool → Ended → List ℕ → List ℤ → List ℕ → List ℤ → List ℕ → ℕ → ℕ → Type 0
CallEnds t x b n b' n' c' k r = ((P : Program) (W : Version) → ReturnTold t P W b n k r → Comes x (ended_by P W b n k r Opener.Call) b n b' n') × Left x b' n' c'

-- whichever it is
abbrev pub BlockEnds : Option Bool → Ended → List ℕ → List ℤ → List ℕ → List ℤ → List ℕ → ℕ → ℕ → Type 0
BlockEnds t x b n b' n' c' k r =
    ((P : Program) (W : Version) → (top_opener b ≡ Opener.Call → ReturnTold t P W b n k r) → Comes x (ended_by P W b n k r (top_opener b)) b n b' n') × Left x b' n' c'

-- ---- the value of a call

-- the newest call works in the frame k, and there is an activation below it
pub record Returning (b : List ℕ) (k : ℕ) : Type 0 where
  pub newest : k + 1 ≡ b ! CALLS
  pub few : k < 32
  pub below : 1 < b ! DEPTH
  pub low : b ! DEPTH ≤ 32
  pub opener : top_opener b ≡ Opener.Call

-- what its cell e holds goes to the register d of its caller
abbrev pub GoesBack : Ended → List ℕ → List ℤ → List ℕ → List ℤ → List ℕ → ℕ → ℕ → ℕ → Type 0
GoesBack x b n b' n' c' k e d = Comes x (back (state_in b n) k d (cell_in b n k e)) b n b' n' × Left x b' n' c'

-- ---- the end of a run

-- the bytes of an ended run, with its status and the length of its result
abbrev pub closed_bytes : List ℕ → ℕ → ℕ → List ℕ
closed_bytes b s l = set (set (set (set b CALLS 0) DEPTH 0) STATUS s) (STATUS + 1) l

-- the state of a run that is DONE with the integer z, or with the vector v
abbrev pub done_integer : List ℕ → List ℤ → ℤ → State
done_integer b n z = with_end (closed (state_in b n)) (state_in b n).result (End.Integer z)

abbrev pub done_vector : List ℕ → List ℤ → ℕ → State
done_vector b n v = with_end (closed (state_in b n)) (vector_in b n v).items (End.Vector (length (items_of (vector_in b n v))))

-- the status of a run that was stopped, and its state
unfoldable pub stop_byte : Halt → ℕ
stop_byte Halt.Undef = 3
stop_byte Halt.Deep = 4
stop_byte Halt.Vectors = 5
stop_byte Halt.Promises = 6

abbrev pub stopped_by : List ℕ → List ℤ → Halt → State
stopped_by b n h = with_end (state_in b n) (state_in b n).result (end_of h)

-- t is what the machine's definitions come to at the end of the run; it never goes back to a caller
unfoldable pub RunEnds : Ended → Try State → List ℕ → List ℤ → List ℕ → List ℤ → Type 0
RunEnds Ended.Back t b n b' n' = ⊥
RunEnds Ended.Done t b n b' n' = (t ≡ got (state_in b' n')) × Over b' n'
RunEnds Ended.Stuck t b n b' n' = (t ≡ stuck) × (b' ≡ b) × (n' ≡ n)

-- the run ends with what the cell e of the frame k holds
abbrev pub CellEnds : Ended → List ℕ → List ℤ → List ℕ → List ℤ → ℕ → ℕ → Type 0
CellEnds x b n b' n' k e = RunEnds x (done (state_in b n) (cell_in b n k e)) b n b' n'
