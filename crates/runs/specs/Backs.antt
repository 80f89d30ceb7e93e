-- 02, request 8: what a trail keeps, and what a step back gives, after every list of steps, budgets, changes and steps back. The statements alone.
use Rattle.std.specs.Prelude.{◌≡◌, List, [], ◌∷◌, map, Bool, true, false, cond, ℕ, suc, ◌+◌, ◌-◌, ◌≤◌, ◌<◌, Err, Ok}
use Rattle.std.specs.Result.{is_ok}
use Rattle.program.specs.Program.{Program}
use Rattle.machine.specs.Runs.{step_of, last_step, budget_in, budget_of}
use Rattle.machine.specs.Changes.{change_of}
use Rattle.machine.specs.Events.{Run, Event, single, budget, change, program_in, handle, after}
use Rattle.machine.specs.Trails.{REACH, behind_by, steps_by, step_on, state_after, refused20, back_of, Visit, visit_program, run_now, run_then, visit_of, Move, event, step_back, move, visit_after}
use Rattle.machine.specs.declared.Behind.{Behind}
use Rattle.machine.specs.declared.End.{End}
use Rattle.machine.specs.declared.Said.{Said}
use Rattle.machine.specs.declared.State.{State}
use Rattle.machine.specs.declared.Trail.{Trail}
use Rattle.machine.specs.Denials.{Grant}

-- s is the state that n steps give from the start; or the stop, which does not count, of the step tried there
pub data At (P : Program) (start : State) (n : ℕ) (s : State) : Type 0 where
  gone : s ≡ state_after P start n → At P start n s
  stopped : (e : End) → (step_of P (state_after P start n)).said ≡ Said.Ended e → last_step e ≡ 0 → s ≡ (step_of P (state_after P start n)).state → At P start n s

-- the steps that a budget of n takes, from the state s
abbrev pub taken_of : Program → State → ℕ → ℕ
taken_of P s n = (budget_in P s n s.status).steps

-- what a trail keeps: n counted steps lie between its start and its state, no fewer, and it says so up to REACH
pub record Kept (v : Visit) : Type 0 where
  pub steps : ℕ
  pub behind : v.trail.behind ≡ behind_by steps
  pub taken : taken_of (visit_program v) v.trail.start steps ≡ steps
  pub stands : At (visit_program v) v.trail.start steps v.trail.state

-- ---- how many steps lie behind

-- the move is a change that is taken
abbrev pub is_taken : Grant → Bool
is_taken c = is_ok c

unfoldable pub takes : Move → Visit → Bool
takes (event single) v = false
takes (event (budget n buffer)) v = false
takes (event (change new)) v = is_taken (change_of v.image new v.trail.state)
takes step_back v = false

-- the steps that an event takes
unfoldable pub steps_of : Event → Run → ℕ
steps_of single r = steps_by r.state.status (step_of (program_in r) r.state).said
steps_of (budget n buffer) r = (budget_of (program_in r) r.state n buffer).steps
steps_of (change new) r = 0

-- a step back that is taken is one step less
unfoldable pub count_back : Grant → ℕ → ℕ
count_back (Ok _) n = n - 1
count_back (Err why) n = n

-- behind a move, where n lay behind before it: a change that is taken is a start
unfoldable pub count_on : Move → Visit → ℕ → ℕ
count_on (event e) v n = cond (takes (event e) v) 0 (n + steps_of e (run_now v))
count_on step_back v n = count_back (back_of (visit_program v) v.trail).back n

-- behind a list of moves
unfoldable pub count_after : List Move → Visit → ℕ → ℕ
count_after [] v n = n
count_after (m ∷ ms) v n = count_after ms (move m v).visit (count_on m v n)

-- After every list of steps, budgets, changes, taken or refused, and steps back, from every run: so many lie behind as the list comes to
unfoldable pub Counts : Type 0
Counts = (r : Run) (ms : List Move) → (k : Kept (visit_after ms (visit_of r))) × (k.steps ≡ count_after ms (visit_of r) 0)

-- ---- the step back

-- one step less: with n from 1 to REACH counted steps behind, the state that n − 1 steps give, whole; else 20 at 0, and all stays
pub record GoesBack (P : Program) (start : State) (n : ℕ) (t : Trail) : Type 0 where
  pub one : (m : ℕ) → n ≡ suc m → n ≤ REACH → back_of P t ≡ record { trail = record { start = start; behind = Behind.Steps m; state = state_after P start m }; back = Ok tt }
  pub none : n ≡ 0 → back_of P t ≡ refused20 t
  pub past : REACH < n → back_of P t ≡ refused20 t

-- so after every list of moves, by the count that its trail keeps
unfoldable pub StepsBack : Type 0
StepsBack = (r : Run) (ms : List Move) → let v = visit_after ms (visit_of r) in (k : Kept v) → GoesBack (visit_program v) v.trail.start k.steps v.trail

-- a step that counts, taken back, leaves the trail before it, whole, while at most REACH lie behind
unfoldable pub Undoes : Type 0
Undoes =
    (r : Run) (ms : List Move) (n : ℕ) → let v = visit_after ms (visit_of r) in
    v.trail.behind ≡ Behind.Steps n → n < REACH → steps_by v.trail.state.status (step_of (visit_program v) v.trail.state).said ≡ 1
    → back_of (visit_program v) (step_on (visit_program v) v.trail) ≡ record { trail = v.trail; back = Ok tt }

-- and a step forward behind a step back leads to the trail again, whole, unless the run was stopped there
unfoldable pub Redoes : Type 0
Redoes =
    (r : Run) (ms : List Move) (m : ℕ) → let v = visit_after ms (visit_of r) in
    v.trail.behind ≡ Behind.Steps (suc m) → v.trail.state ≡ state_after (visit_program v) v.trail.start (suc m) → step_on (visit_program v) (back_of (visit_program v) v.trail).trail ≡ v.trail

-- ---- the start, and the last change

-- no change among the moves is taken
unfoldable pub NoneTaken : List Move → Visit → Type 0
NoneTaken [] v = Unit {0}
NoneTaken (m ∷ ms) v = (takes m v ≡ false) × NoneTaken ms (move m v).visit

pub record Since : Type 0 where
  -- Where none is taken, image and start stay;
  pub same : (ms : List Move) (v : Visit) → NoneTaken ms v → run_then (visit_after ms v) ≡ run_then v
  -- one that is taken is a new start, under its image and with no step behind.
  pub anew : (new : List ℕ) (v : Visit) → change_of v.image new v.trail.state ≡ Ok tt → (move (event (change new)) v).visit ≡ visit_of (record { image = new; state = v.trail.state })

-- ---- counted from the start

unfoldable pub steps_in : List Event → Run → ℕ
steps_in [] r = 0
steps_in (e ∷ es) r = steps_of e r + steps_in es (handle e r).run

-- After n steps, by single ones and budgets since the start or the last change that was taken, refused changes among them: the state that n − 1 steps give
unfoldable pub OneLess : Type 0
OneLess =
    (r : Run) (es : List Event) → NoneTaken (map event es) (visit_of r)
    → GoesBack (program_in r) r.state (steps_in es r) (visit_after (map event es) (visit_of r)).trail

-- ---- a step back leads to a state of the run

-- every list of moves comes to a run that events alone come to
unfoldable pub Straight : Type 0
Straight = (r : Run) (ms : List Move) → (es : List Event) × (after es r ≡ run_now (visit_after ms (visit_of r)))
