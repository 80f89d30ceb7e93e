-- 02, request 8: a state with its start kept, which is a trail, and the step back.
use Rattle.std.specs.Prelude.{List, [], ◌∷◌, ◌++◌, map, cond, ℕ, zero, suc, ◌+◌, ℤ, leb, Err, Ok}
use Rattle.program.specs.Program.{Program}
use Rattle.machine.specs.Runs.{step_of, last_step, budget_in, budget_of, buffer_of}
use Rattle.machine.specs.Begin.{program_of}
use Rattle.machine.specs.Changes.{change_of}
use Rattle.machine.specs.Events.{Run, Event, single, budget, change, Reply, said, gave, became, in_force, in_state, tried_in, tried}
use Rattle.machine.specs.declared.Behind.{Behind}
use Rattle.machine.specs.declared.Returned.{Returned}
use Rattle.machine.specs.declared.Said.{Said}
use Rattle.machine.specs.declared.State.{State}
use Rattle.machine.specs.declared.Status.{Status}
use Rattle.machine.specs.declared.Trail.{Trail}
use Rattle.machine.specs.Denials.{Grant, denied}

-- ---- what lies behind

-- the most steps that may lie behind: n from 1 to 4,294,967,295
abbrev pub REACH : ℕ
REACH = 4294967295

-- after n steps since the start or the last change that was taken: past REACH none lies behind any more
unfoldable pub behind_by : ℕ → Behind
behind_by n = cond (leb n REACH) (Behind.Steps n) Behind.Past

-- m steps more; past REACH it stays so until a start or a change
unfoldable pub further : Behind → ℕ → Behind
further (Behind.Steps n) m = behind_by (n + m)
further Behind.Past m = Behind.Past

-- the steps that a single step takes, by the status before it, as a budget counts them: DONE and UNDEF count; a stop, a stuck step and one of an ended run do not
unfoldable pub steps_by : Status → Said → ℕ
steps_by (Status.Ended e) d = 0
steps_by Status.Running Said.GoesOn = 1
steps_by Status.Running (Said.Ended e) = last_step e
steps_by Status.Running Said.Stuck = 0

-- ---- a state with its start kept

-- a start: no step lies behind
abbrev pub started : State → Trail
started s = record { start = s; behind = Behind.Steps 0; state = s }

-- after a single step
unfoldable pub step_on : Program → Trail → Trail
step_on P t = let r = step_of P t.state in record { start = t.start; behind = further t.behind (steps_by t.state.status r.said); state = r.state }

-- after a budget; one that is refused leaves all
unfoldable pub budget_on : Program → Trail → ℕ → List ℤ → Trail
budget_on P t n buffer = let r = budget_of P t.state n buffer in record { start = t.start; behind = further t.behind r.steps; state = r.state }

-- after a change of the image by request 3: one that is taken is a new start, one that is refused leaves all
unfoldable pub change_on : Trail → Grant → Trail
change_on t (Ok _) = started t.state
change_on t (Err why) = t

-- ---- the step back

-- the state that n steps give, from the state s
abbrev pub state_after : Program → State → ℕ → State
state_after P s n = (budget_in P s n s.status).state

-- 20 when no step lies behind, at 0, and all stays
abbrev pub refused20 : Trail → Returned
refused20 t = record { trail = t; back = Err (denied 20 0) }

-- after n steps the state that n − 1 steps give, whole, and n − 1 lie behind
unfoldable pub back_by : Program → Trail → Behind → Returned
back_by P t Behind.Past = refused20 t
back_by P t (Behind.Steps zero) = refused20 t
back_by P t (Behind.Steps (suc m)) = record { trail = record { start = t.start; behind = Behind.Steps m; state = state_after P t.start m }; back = Ok tt }

-- 02, request 8: the step back
unfoldable pub back_of : Program → Trail → Returned
back_of P t = back_by P t t.behind

-- ---- lists of single steps, budgets, changes and steps back

-- a run with its start kept: the image in force, which it has been under since that start
pub record Visit : Type 0 where
  pub image : List ℕ
  pub trail : Trail

abbrev pub visit_program : Visit → Program
visit_program v = program_of v.image

-- the run that it has come to
abbrev pub run_now : Visit → Run
run_now v = record { image = v.image; state = v.trail.state }

-- the run that it goes back to at most
abbrev pub run_then : Visit → Run
run_then v = record { image = v.image; state = v.trail.start }

-- a run whose start is kept
abbrev pub visit_of : Run → Visit
visit_of r = record { image = r.image; trail = started r.state }

-- an event, or a step back
pub data Move : Type 0 where
  event : Event → Move
  step_back : Move

-- what a move says: what its event says, or whether the step back is taken
pub data MoveReply : Type 0 where
  replied : Reply → MoveReply
  returned : Grant → MoveReply

-- the visit after a move, and its reply
pub record Went : Type 0 where
  pub visit : Visit
  pub reply : MoveReply

unfoldable pub move : Move → Visit → Went
move (event single) v = record { visit = record { image = v.image; trail = step_on (visit_program v) v.trail }; reply = replied (said (step_of (visit_program v) v.trail.state).said) }
move (event (budget n buffer)) v =
    let r = budget_of (visit_program v) v.trail.state n buffer in
    record { visit = record { image = v.image; trail = budget_on (visit_program v) v.trail n buffer }; reply = replied (gave r.answer r.steps (buffer_of r buffer)) }
move (event (change new)) v =
    let c = change_of v.image new v.trail.state in
    record { visit = record { image = in_force c v.image new; trail = change_on v.trail c }; reply = replied (became c) }
move step_back v = let b = back_of (visit_program v) v.trail in record { visit = record { image = v.image; trail = b.trail }; reply = returned b.back }

-- the visit after a list of moves
unfoldable pub visit_after : List Move → Visit → Visit
visit_after [] v = v
visit_after (m ∷ ms) v = visit_after ms (move m v).visit

-- their replies, in order
unfoldable pub move_replies : List Move → Visit → List MoveReply
move_replies [] v = []
move_replies (m ∷ ms) v = let x = move m v in x.reply ∷ move_replies ms x.visit

-- ---- history: where a step was tried, each with the image in force then

-- by a step back: from the start on, one step less than lie behind
unfoldable pub retried : Program → State → Behind → List State
retried P s Behind.Past = []
retried P s (Behind.Steps zero) = []
retried P s (Behind.Steps (suc m)) = tried_in P s m s.status

unfoldable pub tried_on : Move → Visit → List Run
tried_on (event e) v = tried e (run_now v)
tried_on step_back v = map (in_state (run_now v)) (retried (visit_program v) v.trail.start v.trail.behind)

unfoldable pub visit_history : List Move → Visit → List Run
visit_history [] v = []
visit_history (m ∷ ms) v = tried_on m v ++ visit_history ms (move m v).visit
