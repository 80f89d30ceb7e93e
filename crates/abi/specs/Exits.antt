-- What a call on a state answers and leaves.
use Rattle.std.specs.Prelude.{List, ◌≡◌, ℕ, ◌+◌, ℤ}
use Rattle.program.specs.Program.{Program}
use Rattle.machine.specs.Runs.{buffer_of, written}
use Rattle.machine.specs.declared.Answer.{Answer}
use Rattle.machine.specs.declared.End.{End}
use Rattle.machine.specs.declared.Ran.{Ran}
use Rattle.machine.specs.declared.Said.{Said}
use Rattle.machine.specs.declared.State.{State}
use Rattle.machine.specs.declared.Status.{Status}
use Rattle.machine.specs.declared.Stepped.{Stepped}
use Rattle.machine.specs.States.{ITEMS}
use Rattle.store.specs.Lists.{up_to}
use Rattle.store.specs.Store.{RESULT, ◌#◌}
use Rattle.begin.specs.Asking.{Begins}
use Rattle.begin.specs.declared.Entrance.{Entrance}
use Rattle.abi.specs.Answers.{answer_numbers, said_numbers}
use Rattle.abi.specs.Held.{held}
use Rattle.abi.specs.declared.answers.FirAnswer.{FirAnswer}
use Rattle.abi.specs.declared.answers.FirSaid.{FirSaid}
use Rattle.abi.specs.declared.state.FirState.{FirState}
use Rattle.machine.specs.Denials.{Grant}

-- ---- beginning

-- what a run enters, and at which level
abbrev pub entrance : ℕ → ℕ → ℕ → Entrance
entrance level f w = record { level = level; function = f; version = w }

-- a begun run is in its first state, whose bytes and numbers are told by program, entrance and words; a refusal leaves all as it was
abbrev pub Began : Grant → Program → Entrance → List ℤ → List ℤ → FirState → FirState → Type 0
Began x P e words buffer before after = Begins x P e words buffer before.bytes before.numbers after.bytes after.numbers

-- ---- steps

-- the answer to a budget, by the status that it leaves
unfoldable pub ended_by : Status → Answer
ended_by Status.Running = Answer.Steps
ended_by (Status.Ended e) = Answer.Ended e

-- the items of the result
unfoldable pub result_in : List ℤ → List ℤ
result_in n = up_to (λ j. n # (RESULT + j)) 0 ITEMS

-- the items that a state has for the lent buffer: those of the vector that its run is DONE with
unfoldable pub items_in : State → List ℤ
items_in s = written s.result (ended_by s.status)

-- a single step: what it says, the state behind it, and that a stuck step and one of an ended run write nothing
pub record Steps (r : FirSaid) (t : Stepped) (before after : FirState) : Type 0 where
  pub numbers : r ≡ said_numbers t.said
  pub state : held after ≡ t.state
  pub stuck : t.said ≡ Said.Stuck → after ≡ before
  pub ended : (e : End) → (held before).status ≡ Status.Ended e → after ≡ before

-- after a budget the run is in the state s; a refusal leaves what was there, byte for byte
unfoldable pub Left : Answer → State → FirState → FirState → Type 0
Left (Answer.Refused q p) s before after = after ≡ before
Left Answer.Steps s before after = held after ≡ s
Left (Answer.Ended e) s before after = held after ≡ s
Left Answer.Stuck s before after = held after ≡ s

-- an answer in numbers, the state and the lent buffer after a budget are those of a run
pub record Answers (r : FirAnswer) (b : Ran) (before after : FirState) (buffer last : List ℤ) : Type 0 where
  pub numbers : r ≡ answer_numbers b.answer b.steps
  pub state : Left b.answer b.state before after
  pub written : last ≡ buffer_of b buffer

-- a budget of m steps that are 0, one whose first step is stuck, and one of an ended run write nothing
pub record Rests (m : ℕ) (b : Ran) (before after : FirState) : Type 0 where
  pub none : m ≡ 0 → after ≡ before
  pub stuck : b.answer ≡ Answer.Stuck → b.steps ≡ 0 → after ≡ before
  pub ended : (e : End) → (held before).status ≡ Status.Ended e → after ≡ before
