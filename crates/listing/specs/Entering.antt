-- How a call opens its frame, and what becomes of the registers that it lists.
use Rattle.std.specs.Prelude.{List, [], ◌∷◌, map, ◌≡◌, Bool, ◌&&◌, ℕ, zero, suc, ◌/◌, ◌%◌, ◌<◌, ℤ, length, eqb, ltb}
use Rattle.layout.specs.Records.{◌!◌}
use Rattle.program.specs.Program.{Argument, Program, Version, find_version, parameter_types}
use Rattle.rules.specs.Types.{is_owned}
use Rattle.machine.specs.Calls.{empty_if, enter, matching, picked}
use Rattle.machine.specs.States.{kind_in, over, place, value, with_frame}
use Rattle.machine.specs.Steps.{registers_of}
use Rattle.machine.specs.Try.{Try, each, got, ◌>>=◌, ◌>>◌, or_stuck, stuck_unless}
use Rattle.machine.specs.declared.Frame.{Frame}
use Rattle.machine.specs.declared.State.{State}
use Rattle.machine.specs.declared.Value.{Value}
use Rattle.store.specs.declared.Did.{Did}
use Rattle.store.specs.Store.{cell_in, frame_in, state_in}
use Rattle.store.specs.Counts.{Ready}
use Rattle.store.specs.Acts.{Does}
use Rattle.listing.specs.Listing.{Small}
use Rattle.listing.specs.declared.Callee.{Callee}

-- what these registers of the frame k hold
abbrev pub held_by : List ℕ → List ℤ → ℕ → List ℕ → List Value
held_by b n k rs = map (cell_in b n k) rs

-- they are there and not empty
abbrev pub AllFull : List ℕ → List ℤ → ℕ → List ℕ → Type 0
AllFull b n k rs = (each (value (frame_in b n k)) rs ≡ got (held_by b n k rs)) × Small rs

-- the frame with these values in its registers from 0 on
unfoldable pub with_arguments : Frame → List Value → Frame
with_arguments f vs = record { function = f.function; version = f.version; registers = over (map place vs) f.registers; names = f.names }

-- the state with what the registers rs of the frame k hold in those of the frame j
abbrev pub passed_on : List ℕ → List ℤ → ℕ → ℕ → List ℕ → State
passed_on b n k j rs = with_frame (state_in b n) j (with_arguments (frame_in b n j) (held_by b n k rs))

-- ---- owned arguments, by a mask

-- is bit i of the mask set?
unfoldable pub is_bit : ℕ → ℕ → Bool
is_bit m zero = eqb (m % 2) 1
is_bit m (suc i) = is_bit (m / 2) i

-- the mask tells which of the arguments rs go to owned parameters of types ts
abbrev pub Marks : ℕ → List ℕ → List ℕ → Type 0
Marks m ts rs = (i : ℕ) → i < length rs → is_bit m i ≡ (ltb i (length ts) && is_owned (ts ! i))

-- the registers of the frame k that the mask tells are emptied
unfoldable pub masked : State → ℕ → ℕ → List ℕ → Try State
masked s k m [] = got s
masked s k m (r ∷ rs) = do
  u ← empty_if (eqb (m % 2) 1) s k r
  masked u k (m / 2) rs

-- they were
abbrev pub Empties : List ℕ → List ℤ → List ℕ → List ℕ → ℕ → ℕ → List ℕ → Type 0
Empties b n b' c' k m rs = (masked (state_in b n) k m rs ≡ got (state_in b' n)) × Ready b' n c'

-- ---- the call

-- the values of the registers rs go to a call of W
abbrev pub entered : State → ℕ → Frame → ℕ → Version → List ℕ → Try State
entered s k f d W rs = each (value f) rs >>= enter s k d W rs

-- the frame k calls the version of the callee, of whose owned parameters the mask tells, with its registers rs
abbrev pub Enters : Did → List ℕ → List ℤ → List ℕ → List ℤ → List ℕ → ℕ → Callee → ℕ → List ℕ → Type 0
Enters r b n b' n' c' k e m rs =
    ((W : Version) → W.function ≡ e.function → W.version ≡ e.version → Marks m (parameter_types W) rs
    → Does r (entered (state_in b n) k (frame_in b n k) e.d W rs) b n b' n')
    × Ready b' n' c'

-- ---- CALL and DISPATCH

-- the version that a CALL in the frame f calls: it is there, and the arguments are of its kinds
unfoldable pub called_in : Program → State → Frame → ℕ → ℕ → List ℕ → Try Version
called_in P s f g w rs = do
  X ← or_stuck (find_version P g w)
  vs ← each (value f) rs
  ks ← each (kind_in P s) vs
  stuck_unless (matching ks (parameter_types X))
  got X

-- the version that a DISPATCH in the frame f, of a version of this level, picks
unfoldable pub picked_in : Program → State → Frame → ℕ → ℕ → ℕ → ℕ → List Argument → Try Version
picked_in P s f level g mark ret pairs = do
  vs ← each (value f) (registers_of pairs)
  ks ← each (kind_in P s) vs
  picked P level g mark ret pairs ks

-- the version that t comes to is called
abbrev pub calling : Try Version → State → ℕ → Frame → ℕ → List ℕ → Try State
calling t s k f d rs = t >>= λ X. entered s k f d X rs
