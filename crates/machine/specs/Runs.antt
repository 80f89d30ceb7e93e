-- Steps: the single step and the budget, with their answers.
use Rattle.std.specs.Prelude.{List, [], Bool, true, false, ℕ, zero, suc, ◌+◌, ℤ, length, take, leb}
use Rattle.program.specs.Program.{Program}
use Rattle.machine.specs.Try.{Try, got, stuck, stop}
use Rattle.machine.specs.States.{ITEMS, over, with_end}
use Rattle.machine.specs.Values.{RANGE}
use Rattle.machine.specs.Steps.{advance_to}
use Rattle.machine.specs.declared.Answer.{Answer}
use Rattle.machine.specs.declared.End.{End}
use Rattle.machine.specs.declared.Ran.{Ran}
use Rattle.machine.specs.declared.Said.{Said}
use Rattle.machine.specs.declared.State.{State}
use Rattle.machine.specs.declared.Status.{Status}
use Rattle.machine.specs.declared.Stepped.{Stepped}

-- ---- the single step

-- what a step says, by the status that it leaves
unfoldable pub saying : Status → Said
saying Status.Running = Said.GoesOn
saying (Status.Ended e) = Said.Ended e

-- stuck changes nothing; UNDEF, DEEP, VECTORS and PROMISES change nothing but that the run has ended
unfoldable pub settled : State → Try State → Stepped
settled s (got t) = record { state = t; said = saying t.status }
settled s stuck = record { state = s; said = Said.Stuck }
settled s (stop e) = record { state = with_end s s.result e; said = Said.Ended e }

-- a step of an ended run changes nothing and gives its end again, with integers in the range R
unfoldable pub step_in_to : ℕ → Program → State → Status → Stepped
step_in_to R P s Status.Running = settled s (advance_to R P s)
step_in_to R P s (Status.Ended e) = record { state = s; said = Said.Ended e }

-- Steps: the single step
unfoldable pub step_of_to : ℕ → Program → State → Stepped
step_of_to R P s = step_in_to R P s s.status

-- ---- the budget

-- the steps that an end adds: that of DONE or UNDEF counts, one stopped by the last three does not
unfoldable pub last_step : End → ℕ
last_step (End.Integer z) = 1
last_step (End.Vector n) = 1
last_step End.Undef = 1
last_step End.Deep = 0
last_step End.Vectors = 0
last_step End.Promises = 0

-- after n steps and one more: `more` where the run goes on
unfoldable pub continued : State → Said → ℕ → (State → Ran) → Ran
continued s Said.GoesOn n more = more s
continued s (Said.Ended e) n more = record { state = s; answer = Answer.Ended e; steps = n + last_step e }
continued s Said.Stuck n more = record { state = s; answer = Answer.Stuck; steps = n }

-- a run that goes on, after n steps, with a budget of further ones; budget is looked at first
unfoldable pub run_from_to : ℕ → Program → ℕ → State → ℕ → Ran
run_from_to R P zero s n = record { state = s; answer = Answer.Steps; steps = n }
run_from_to R P (suc m) s n = let r = step_of_to R P s in continued r.state r.said n (λ t. run_from_to R P m t (n + 1))

-- a budget on an ended run leaves the state and gives that end with 0 steps
unfoldable pub budget_in_to : ℕ → Program → State → ℕ → Status → Ran
budget_in_to R P s n Status.Running = run_from_to R P n s 0
budget_in_to R P s n (Status.Ended e) = record { state = s; answer = Answer.Ended e; steps = 0 }

-- 13: has the result buffer at least 16 places?
unfoldable pub long_enough : List ℤ → Bool
long_enough buffer = leb ITEMS (length buffer)

-- a budget of n steps with a lent buffer; a refusal leaves the state as it was
unfoldable pub budget_of_to : ℕ → Program → State → ℕ → List ℤ → Ran
budget_of_to R P s n buffer = elim (long_enough buffer) [ true ↦ budget_in_to R P s n s.status | false ↦ record { state = s; answer = Answer.Refused 13 0; steps = 0 } ]

-- the items that an answer writes
unfoldable pub written : List ℤ → Answer → List ℤ
written xs (Answer.Refused q p) = []
written xs Answer.Steps = []
written xs (Answer.Ended e) = elim e [ End.Integer z ↦ [] | End.Vector n ↦ take n xs | End.Undef ↦ [] | End.Deep ↦ [] | End.Vectors ↦ [] | End.Promises ↦ [] ]
written xs Answer.Stuck = []

-- the lent buffer after a budget: the items from the place 0 on, all else stays
unfoldable pub buffer_of : Ran → List ℤ → List ℤ
buffer_of r buffer = over (written r.state.result r.answer) buffer

-- ---- in the range in force

abbrev pub step_in : Program → State → Status → Stepped
step_in P s st = step_in_to RANGE P s st

abbrev pub step_of : Program → State → Stepped
step_of P s = step_of_to RANGE P s

abbrev pub run_from : Program → ℕ → State → ℕ → Ran
run_from P m s n = run_from_to RANGE P m s n

abbrev pub budget_in : Program → State → ℕ → Status → Ran
budget_in P s n st = budget_in_to RANGE P s n st

abbrev pub budget_of : Program → State → ℕ → List ℤ → Ran
budget_of P s n buffer = budget_of_to RANGE P s n buffer
