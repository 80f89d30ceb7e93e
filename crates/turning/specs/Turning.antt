-- What a turn of the loop has done.
use Rattle.std.specs.Prelude.{List, ◌≡◌, ℕ, ◌+◌, ◌*◌, ◌/◌, ◌%◌, ◌≤◌, ◌<◌, ℤ, length, set, Ok, Err, Result}
use Rattle.layout.specs.Kinds as kind
use Rattle.layout.specs.Records.{◌!◌}
use Rattle.machine.specs.Runs.{last_step}
use Rattle.machine.specs.Allowed.{advance_with}
use Rattle.machine.specs.Steps.{execute}
use Rattle.machine.specs.Try.{got, stuck, stop}
use Rattle.machine.specs.declared.End.{End}
use Rattle.machine.specs.declared.Status.{Status}
use Rattle.store.specs.Acts.{Does}
use Rattle.store.specs.Answers.{end_of}
use Rattle.store.specs.Counts.{Ready}
use Rattle.store.specs.Store.{DEPTH, frame_in, state_in, Live, Sized}
use Rattle.store.specs.declared.Did.{Did}
use Rattle.store.specs.declared.Halt.{Halt}
use Rattle.listing.specs.Entering.{AllFull, Enters}
use Rattle.integers.specs.declared.Fault.{Fault}
use Rattle.matching.specs.declared.Choice.{Choice}
use Rattle.loaded.specs.Loaded.{NUMBERS, instr_in, program_in, record_at, version_in}
use Rattle.program.specs.Program.{Instr}
use Rattle.turning.specs.Standing.{Here, next_byte, next_of, onward, state_at}
use Rattle.turning.specs.declared.Spot.{Spot}
use Rattle.turning.specs.declared.Turn.{Turn}

-- nothing was done but to the number of the next instruction
pub record Touched (b : List ℕ) (n : List ℤ) (b' : List ℕ) (n' : List ℤ) : Type 0 where
  pub next : ℕ
  pub bytes : b' ≡ set b (next_byte b) next
  pub numbers : n' ≡ n

-- the record i is none that `line` executes
pub record Left (t : List ℕ) (i : ℕ) : Type 0 where
  pub not_use : t ! record_at i ≡ kind.USE → ⊥
  pub not_dup : t ! record_at i ≡ kind.DUP → ⊥
  pub not_len : t ! record_at i ≡ kind.LEN → ⊥
  pub not_get : t ! record_at i ≡ kind.GET → ⊥
  pub not_set : t ! record_at i ≡ kind.SET → ⊥
  pub not_arith : t ! record_at i ≡ kind.ARITH → ⊥
  pub not_select : t ! record_at i ≡ kind.SELECT → ⊥
  pub not_named : t ! record_at i ≡ kind.NAMED → ⊥
  pub not_store : t ! record_at i ≡ kind.STORE → ⊥
  pub not_force : t ! record_at i ≡ kind.FORCE → ⊥
  pub not_peek : t ! record_at i ≡ kind.PEEK → ⊥
  pub not_poke : t ! record_at i ≡ kind.POKE → ⊥
  pub not_skip : t ! record_at i ≡ kind.SKIP → ⊥

-- a run that went on before goes on
abbrev pub Goes : List ℕ → List ℤ → List ℕ → List ℤ → Type 0
Goes b n b' n' = (state_in b n).status ≡ Status.Running → (state_in b' n').status ≡ Status.Running

-- the step from b and n at the spot p comes to the turn; b' and n' are left
unfoldable pub Went : Turn → List ℕ → List ℕ → List ℕ → List ℤ → List ℕ → List ℤ → List ℕ → Spot → Type 0
Went Turn.On s t b n b' n' c' p = (advance_with p.most (program_in s t) (state_at b n p) ≡ got (state_at b' n' (onward p 1))) × Here s t b' n' (onward p 1) × Ready b' n' c' × Goes b n b' n'
Went (Turn.Over m) s t b n b' n' c' p = (advance_with p.most (program_in s t) (state_at b n p) ≡ got (state_at b n (onward p (1 + m)))) × (b' ≡ b) × (n' ≡ n) × Ready b' n' c'
    × Here s t b n (onward p (1 + m)) × (m < 256)
Went Turn.Moved s t b n b' n' c' p = (advance_with p.most (program_in s t) (state_at b n p) ≡ got (state_in b' n')) × Ready b' n' c' × Goes b n b' n'
Went Turn.Done s t b n b' n' c' p = (advance_with p.most (program_in s t) (state_at b n p) ≡ got (state_in b' n')) × Sized b' n'
    × ((state_in b n).status ≡ Status.Running → (e : End) × ((state_in b' n').status ≡ Status.Ended e) × (last_step e ≡ 1))
Went Turn.Stuck s t b n b' n' c' p = (advance_with p.most (program_in s t) (state_at b n p) ≡ stuck) × Touched b n b' n'
Went (Turn.Stop h) s t b n b' n' c' p = (advance_with p.most (program_in s t) (state_at b n p) ≡ stop (end_of h)) × Touched b n b' n'
Went Turn.Rest s t b n b' n' c' p = (b' ≡ b) × (n' ≡ n) × Ready b' n' c' × (p.next < p.last → Left t p.next)

-- a plain instruction as a turn
unfoldable pub turn_of : Did → Turn
turn_of Did.On = Turn.On
turn_of Did.Stuck = Turn.Stuck
turn_of (Did.Stop h) = Turn.Stop h

-- an instruction that opens an activation
unfoldable pub opened_of : Did → Turn
opened_of Did.On = Turn.Moved
opened_of Did.Stuck = Turn.Stuck
opened_of (Did.Stop h) = Turn.Stop h

-- ---- parts of a turn

-- what the loop keeps where an instruction is next: its record stands in the table, the frame is live, the activation is there
pub record Fit (t b : List ℕ) (p : Spot) : Type 0 where
  pub room : record_at p.next + 8 ≤ length t
  pub live : Live b p.frame
  pub deep : 0 < b ! DEPTH
  pub low : b ! DEPTH ≤ 32
  pub first : p.block < p.next
  pub near : p.next ≤ p.block + 48
  pub small : p.block < 65536

-- the turn of the instruction i at the spot, of whatever image
abbrev pub Turns : Turn → List ℕ → List ℕ → List ℤ → List ℕ → List ℤ → List ℕ → Spot → Instr → Type 0
Turns r t b n b' n' c' p i = (s : List ℕ) → Here s t b n p → p.next < p.last → instr_in s t p.next ≡ i → Went r s t b n b' n' c' p

-- the turn at the spot, of whatever image
abbrev pub Quick : Turn → List ℕ → List ℕ → List ℤ → List ℕ → List ℤ → List ℕ → Spot → Type 0
Quick r t b n b' n' c' p = (s : List ℕ) → (p.next < p.last → Here s t b n p) → Went r s t b n b' n' c' p

-- the number of the next instruction was put to that of the spot m instructions on
abbrev pub Stored : List ℕ → List ℕ → Spot → ℕ → Type 0
Stored b b' p m = b' ≡ set b (next_byte b) (next_of (onward p m))

-- ---- instructions that look at the image

-- the number of the version of the frame k
abbrev pub own_in : List ℕ → ℕ → ℕ
own_in b k = 4 * b ! (32 * k + 24) + b ! (32 * k + 25)

-- the instruction i in the frame k, of its version in the loaded program
abbrev pub Looks : Did → List ℕ → List ℕ → List ℕ → List ℤ → List ℕ → List ℤ → List ℕ → ℕ → Instr → Type 0
Looks r s t b n b' n' c' k i = Does r (execute (program_in s t) (state_in b n) k (frame_in b n k) (version_in s t (own_in b k)) i) b n b' n' × Ready b' n' c'

-- what the loop keeps: the run stands at the spot, or nowhere (last is 0), and then its step is stuck
pub record Kept (s t b : List ℕ) (n : List ℤ) (p : Spot) : Type 0 where
  pub lost : p.last ≡ 0 → advance_with p.most (program_in s t) (state_in b n) ≡ stuck
  pub none : p.last ≡ 0 → p.next ≡ 1
  pub here : 0 < p.last → Here s t b n p

-- a turn that was taken, and not left to the rest, at a spot or lost
pub record Turned (r : Turn) (s t b : List ℕ) (n : List ℤ) (b' : List ℕ) (n' : List ℤ) (c' : List ℕ) (p : Spot) : Type 0 where
  pub went : 0 < p.last → Went r s t b n b' n' c' p
  pub lost : p.last ≡ 0 → (r ≡ Turn.Stuck) × (b' ≡ b) × (n' ≡ n)
  pub told : r ≡ Turn.Rest → ⊥

-- ---- calls

-- the registers hold values, where a version was chosen
unfoldable pub Chosen : Result Choice Fault → List ℕ → List ℤ → ℕ → List ℕ → Type 0
Chosen (Ok r) b n k rs = AllFull b n k rs
Chosen (Err Fault.Undef) b n k rs = 0 < 1  -- always true
Chosen (Err Fault.Stuck) b n k rs = 0 < 1  -- always true

-- what was chosen is entered
pub record Entered (r : Turn) (j m : ℕ) (b : List ℕ) (n : List ℤ) (b' : List ℕ) (n' : List ℤ) (c' : List ℕ) (k d : ℕ) (rs : List ℕ) : Type 0 where
  pub did : Did
  pub turn : r ≡ opened_of did
  pub enters : Enters did b n b' n' c' k (record { d = d; function = j / 4; version = j % 4 }) m rs

-- by the choice: its version is entered, or the turn is UNDEF or stuck and nothing is written
unfoldable pub Opens : Turn → Result Choice Fault → List ℕ → List ℤ → List ℕ → List ℤ → List ℕ → ℕ → ℕ → List ℕ → Type 0
Opens r (Ok x) b n b' n' c' k d rs = Entered r x.version x.owned b n b' n' c' k d rs
Opens r (Err Fault.Undef) b n b' n' c' k d rs = (r ≡ Turn.Stop Halt.Undef) × (b' ≡ b) × (n' ≡ n)
Opens r (Err Fault.Stuck) b n b' n' c' k d rs = (r ≡ Turn.Stuck) × (b' ≡ b) × (n' ≡ n)

-- the run stands at an instruction
pub record Stands (s t b : List ℕ) (n : List ℤ) (p : Spot) : Type 0 where
  pub here : Here s t b n p
  pub fit : Fit t b p
  pub line : p.next < p.last
  pub few : own_in b p.frame < NUMBERS

-- a turn that was taken, and not left to the rest
abbrev pub Answers : Turn → List ℕ → List ℕ → List ℕ → List ℤ → List ℕ → List ℤ → List ℕ → Spot → Type 0
Answers r s t b n b' n' c' p = Went r s t b n b' n' c' p × (r ≡ Turn.Rest → ⊥)
