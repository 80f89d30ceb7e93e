-- What demand 3 speaks of: lists of single steps, budgets and changes of the image, and what each leaves.
use Rattle.std.specs.Prelude.{List, [], ◌∷◌, ◌++◌, map, true, false, ℕ, zero, suc, ℤ, Err, Ok}
use Rattle.program.specs.Program.{Program}
use Rattle.machine.specs.Values.{RANGE}
use Rattle.machine.specs.Runs.{long_enough, step_of, step_of_to, budget_of_to, buffer_of}
use Rattle.machine.specs.Begin.{program_of}
use Rattle.machine.specs.Changes.{change_of}
use Rattle.machine.specs.declared.Answer.{Answer}
use Rattle.machine.specs.declared.Said.{Said}
use Rattle.machine.specs.declared.State.{State}
use Rattle.machine.specs.declared.Status.{Status}
use Rattle.machine.specs.Denials.{Grant}

-- a run: its state, and the image in force
pub record Run : Type 0 where
  pub image : List ℕ
  pub state : State

-- the program of the image in force
abbrev pub program_in : Run → Program
program_in r = program_of r.image

-- the run in another state
abbrev pub in_state : Run → State → Run
in_state r s = record { image = r.image; state = s }

-- a single step, a budget of steps with any lent buffer, or a change to another image
pub data Event : Type 0 where
  single : Event
  budget : ℕ → List ℤ → Event
  change : List ℕ → Event

-- what an event says: a single step its word, a budget its answer, its steps and the lent buffer, a change whether it is taken
pub data Reply : Type 0 where
  said : Said → Reply
  gave : Answer → ℕ → List ℤ → Reply
  became : Grant → Reply

-- the run that an event returns or leaves, and its reply
pub record Handled : Type 0 where
  pub run : Run
  pub reply : Reply

-- the image in force after a change; any refusal leaves the state under the old one
unfoldable pub in_force : Grant → List ℕ → List ℕ → List ℕ
in_force (Ok _) old new = new
in_force (Err why) old new = old

-- what one event does to a run under the image in force, with integers in the range R, and its reply; a change carries the state over whole
unfoldable pub handle_to : ℕ → Event → Run → Handled
handle_to R single r = let x = step_of_to R (program_in r) r.state in record { run = in_state r x.state; reply = said x.said }
handle_to R (budget n buffer) r =
    let x = budget_of_to R (program_in r) r.state n buffer in record { run = in_state r x.state; reply = gave x.answer x.steps (buffer_of x buffer) }
handle_to R (change new) r = let x = change_of r.image new r.state in record { run = record { image = in_force x r.image new; state = r.state }; reply = became x }

-- the run after a list of events, each handed what the one before left
unfoldable pub after_to : ℕ → List Event → Run → Run
after_to R [] r = r
after_to R (e ∷ es) r = after_to R es (handle_to R e r).run

-- their replies, in order
unfoldable pub replies_to : ℕ → List Event → Run → List Reply
replies_to R [] r = []
replies_to R (e ∷ es) r = let h = handle_to R e r in h.reply ∷ replies_to R es h.run

-- ---- in the range in force

abbrev pub handle : Event → Run → Handled
handle e r = handle_to RANGE e r

abbrev pub after : List Event → Run → Run
after es r = after_to RANGE es r

abbrev pub replies : List Event → Run → List Reply
replies es r = replies_to RANGE es r

-- ---- history: the states in which a step was tried, in order

-- `more` of the state s where the step that led to it says that the run goes on; else none
unfoldable pub onward : State → Said → (State → List State) → List State
onward s Said.GoesOn more = more s
onward s (Said.Ended e) more = []
onward s Said.Stuck more = []

-- under a budget of n, on a run that goes on
unfoldable pub tried_under : Program → ℕ → State → List State
tried_under P zero s = []
tried_under P (suc m) s = let r = step_of P s in s ∷ onward r.state r.said (λ t. tried_under P m t)

-- under a budget of n; none on an ended run
unfoldable pub tried_in : Program → State → ℕ → Status → List State
tried_in P s n Status.Running = tried_under P n s
tried_in P s n (Status.Ended e) = []

-- by a budget; one refused by 13 tries none
unfoldable pub tried_by : Program → State → ℕ → List ℤ → List State
tried_by P s n buffer = elim (long_enough buffer) [ true ↦ tried_in P s n s.status | false ↦ [] ]

-- by one event, each with the image in force then; a change tries none
unfoldable pub tried : Event → Run → List Run
tried single r = r ∷ []
tried (budget n buffer) r = map (in_state r) (tried_by (program_in r) r.state n buffer)
tried (change new) r = []

-- What demand 3 speaks of: by a list of events, every state in which a step was tried, with the image in force then
unfoldable pub history : List Event → Run → List Run
history [] r = []
history (e ∷ es) r = tried e r ++ history es (handle e r).run
