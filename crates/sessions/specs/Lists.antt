-- A list of calls of fir_step, fir_budget and fir_change on one state is a list of the events that demand 3 speaks of: the statements alone.
use Rattle.std.specs.Prelude.{◌≡◌, List, [], ◌∷◌, ◌++◌, map, cond, ℕ, eqb, ℤ}
use Rattle.machine.specs.Events.{Event, single, budget, change, Reply, said, gave, became, after, history, replies}
use Rattle.soundness.specs.Claim.{Safe, begun}
use Rattle.abi.specs.Answers.{answer_numbers, grant_numbers, said_numbers}
use Rattle.abi.specs.Calls.{BudgetCall, ChangeCall, StepCall}
use Rattle.abi.specs.declared.answers.FirAnswer.{FirAnswer}
use Rattle.abi.specs.declared.answers.FirEntry.{FirEntry}
use Rattle.abi.specs.declared.answers.FirSaid.{FirSaid}
use Rattle.abi.specs.declared.state.FirState.{FirState}
use Rattle.sessions.specs.Lent.{Starts, TableOf, run_in}

-- ---- calls

-- a call with what it is lent beside the state and what it answers: fir_step; fir_budget with its buffer before and after; fir_change to a new image
pub data Call : Type 0 where
  step : (table : List ℕ) (r : FirSaid) → Call
  steps : (table : List ℕ) (n : ℕ) (buffer last : List ℤ) (r : FirAnswer) → Call
  update : (new : List ℕ) (r : FirEntry) → Call

-- made under the image in force, with a table that it was loaded into: the contract of its function, of the state before and after; fir_change only reads the state
unfoldable pub Meets : List ℕ → Call → FirState → FirState → Type 0
Meets image (step table r) S T = TableOf image table × StepCall image table r S T
Meets image (steps table n buffer last r) S T = TableOf image table × BudgetCall image table n r S T buffer last
Meets image (update new r) S T = ChangeCall image new r S × (T ≡ S)

-- the image in force behind it: the new one where fir_change answers 0
unfoldable pub lent_after : List ℕ → Call → List ℕ
lent_after image (step table r) = image
lent_after image (steps table n buffer last r) = image
lent_after image (update new r) = cond (eqb r.question 0) new image

-- calls one after the other, from a state under an image to a state under an image
pub data Session : List ℕ → FirState → List Call → List ℕ → FirState → Type 0 where
  empty : (image : List ℕ) (S : FirState) → Session image S [] image S
  next : (image : List ℕ) (S T : FirState) (c : Call) (cs : List Call) (end : List ℕ) (U : FirState) → Meets image c S T → Session (lent_after image c) T cs end U → Session image S (c ∷ cs) end U

-- ---- events

-- the event that a call is
unfoldable pub event_of : Call → Event
event_of (step table r) = single
event_of (steps table n buffer last r) = budget n buffer
event_of (update new r) = change new

-- those of a list, in order
abbrev pub events_of : List Call → List Event
events_of cs = map event_of cs

-- what a call tells: its answer in numbers, a budget also the buffer that it leaves
pub data Told : Type 0 where
  by_steps : FirSaid → Told
  by_budget : FirAnswer → List ℤ → Told
  by_change : FirEntry → Told

-- by a call
unfoldable pub told_by : Call → Told
told_by (step table r) = by_steps r
told_by (steps table n buffer last r) = by_budget r last
told_by (update new r) = by_change r

-- a reply in numbers
unfoldable pub in_numbers : Reply → Told
in_numbers (said d) = by_steps (said_numbers d)
in_numbers (gave a n last) = by_budget (answer_numbers a n) last
in_numbers (became c) = by_change (grant_numbers c)

-- ---- the statements

-- Every list of calls leaves the run that its events leave, and tells their replies, whatever the bytes of the first state
unfoldable pub CallsAreEvents : Type 0
CallsAreEvents =
    (image : List ℕ) (S : FirState) (cs : List Call) (end : List ℕ) (U : FirState) → Session image S cs end U
    → (run_in end U ≡ after (events_of cs) (run_in image S)) × (map told_by cs ≡ map in_numbers (replies (events_of cs) (run_in image S)))

-- Demand 3 of the C functions: after every list of calls on a state that a start wrote
unfoldable pub Demand3InC : Type 0
Demand3InC =
    (image : List ℕ) (level f v : ℕ) (words buffer : List ℤ) (S : FirState) (first : List Event) → Starts image level f v words buffer S first
    → (cs : List Call) (end : List ℕ) (U : FirState) → Session image S cs end U
    → Safe (history (first ++ events_of cs) (begun image level f v words buffer)) (run_in end U)
