-- A budget over a loaded program and the arrays of a state.
use Rattle.std.specs.Prelude.{List, ◌≡◌, ℕ, ◌+◌, ◌≤◌, ◌<◌, ℤ, set}
use Rattle.layout.specs.Records.{◌!◌}
use Rattle.program.specs.Program.{Program}
use Rattle.machine.specs.Allowed.{budget_in_with, run_with, step_with}
use Rattle.machine.specs.Runs.{budget_in, step_of}
use Rattle.machine.specs.declared.Answer.{Answer}
use Rattle.machine.specs.declared.End.{End}
use Rattle.machine.specs.declared.Ran.{Ran as Outcome}
use Rattle.machine.specs.declared.Said.{Said}
use Rattle.machine.specs.declared.Status.{Status}
use Rattle.machine.specs.declared.Stepped.{Stepped}
use Rattle.store.specs.Store.{DEPTH, state_in}
use Rattle.loaded.specs.Loaded.{program_in}
use Rattle.turning.specs.Standing.{next_byte, next_of}
use Rattle.running.specs.declared.Counted.{Counted}
use Rattle.running.specs.declared.Pause.{Pause}
use Rattle.turning.specs.declared.Spot.{Spot}

-- ---- where a budget pauses

-- the activation on top is there, and the spot's instruction has a number of one byte
pub record Standing (b : List ℕ) (p : Spot) : Type 0 where
  pub deep : 0 < b ! DEPTH
  pub low : b ! DEPTH ≤ 32
  pub first : p.block < p.next
  pub near : p.next ≤ p.block + 256
  pub small : p.block < 65536

-- that number was written to the activation on top; nothing, where the run stands nowhere
pub record Keeps (b b' : List ℕ) (p : Spot) : Type 0 where
  pub here : 0 < p.last → b' ≡ set b (next_byte b) (next_of p)
  pub lost : p.last ≡ 0 → b' ≡ b

-- ---- what it comes to

-- the answer, by the pause and the status that is left
unfoldable pub answer_of : Pause → Status → Answer
answer_of Pause.Steps st = Answer.Steps
answer_of Pause.Stuck st = Answer.Stuck
answer_of Pause.Ended Status.Running = Answer.Steps
answer_of Pause.Ended (Status.Ended e) = Answer.Ended e

-- what a single step says
unfoldable pub said_of : Pause → Status → Said
said_of Pause.Steps st = Said.GoesOn
said_of Pause.Stuck st = Said.Stuck
said_of Pause.Ended Status.Running = Said.GoesOn
said_of Pause.Ended (Status.Ended e) = Said.Ended e

-- the outcome in the arrays b and n
abbrev pub outcome_in : Counted → List ℕ → List ℤ → Outcome
outcome_in r b n = record { state = state_in b n; answer = answer_of r.pause (state_in b n).status; steps = r.steps }

-- the pause says that the run has ended only where it has
abbrev pub Over : Pause → List ℕ → List ℤ → Type 0
Over r b n = r ≡ Pause.Ended → (e : End) × ((state_in b n).status ≡ Status.Ended e)

-- a budget of a run that goes on, and may have `most` vectors, comes to that; a first step that is stuck, and a budget of 0, leave every byte
pub record Ran (r : Counted) (s t b : List ℕ) (n : List ℤ) (b' : List ℕ) (n' : List ℤ) (most budget : ℕ) : Type 0 where
  pub ran : run_with most (program_in s t) budget (state_in b n) 0 ≡ outcome_in r b' n'
  pub over : Over r.pause b' n'
  pub stuck : r.pause ≡ Pause.Stuck → r.steps ≡ 0 → (b' ≡ b) × (n' ≡ n)
  pub none : budget ≡ 0 → (b' ≡ b) × (n' ≡ n)

-- a budget of a run, ended or not, that comes to u; where nothing is done every byte is as it was
pub record ResumesTo (u : Outcome) (r : Counted) (b : List ℕ) (n : List ℤ) (b' : List ℕ) (n' : List ℤ) (budget : ℕ) : Type 0 where
  pub ran : u ≡ outcome_in r b' n'
  pub over : Over r.pause b' n'
  pub stuck : r.pause ≡ Pause.Stuck → r.steps ≡ 0 → (b' ≡ b) × (n' ≡ n)
  pub none : budget ≡ 0 → (b' ≡ b) × (n' ≡ n)
  pub ended : (e : End) → (state_in b n).status ≡ Status.Ended e → (b' ≡ b) × (n' ≡ n)

abbrev pub Resumes : Counted → Program → List ℕ → List ℤ → List ℕ → List ℤ → ℕ → Type 0
Resumes r P b n b' n' budget = ResumesTo (budget_in P (state_in b n) budget (state_in b n).status) r b n b' n' budget

-- of a run that may have `most` vectors
abbrev pub ResumesWith : ℕ → Counted → Program → List ℕ → List ℤ → List ℕ → List ℤ → ℕ → Type 0
ResumesWith most r P b n b' n' budget = ResumesTo (budget_in_with most P (state_in b n) budget (state_in b n).status) r b n b' n' budget

-- a single step that comes to u, likewise
pub record StepsTo (u : Stepped) (r : Pause) (b : List ℕ) (n : List ℤ) (b' : List ℕ) (n' : List ℤ) : Type 0 where
  pub stepped : u ≡ record { state = state_in b' n'; said = said_of r (state_in b' n').status }
  pub over : Over r b' n'
  pub stuck : r ≡ Pause.Stuck → (b' ≡ b) × (n' ≡ n)
  pub ended : (e : End) → (state_in b n).status ≡ Status.Ended e → (b' ≡ b) × (n' ≡ n)

abbrev pub Steps : Pause → Program → List ℕ → List ℤ → List ℕ → List ℤ → Type 0
Steps r P b n b' n' = StepsTo (step_of P (state_in b n)) r b n b' n'

abbrev pub StepsWith : ℕ → Pause → Program → List ℕ → List ℤ → List ℕ → List ℤ → Type 0
StepsWith most r P b n b' n' = StepsTo (step_with most P (state_in b n)) r b n b' n'
