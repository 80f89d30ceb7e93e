-- What every step and every change that is taken keeps holds after every list of moves, steps back among them, and wherever a step was tried.
use Rattle.std.specs.Prelude.{Err, Ok}
use mathlib.Core.Path.{◌≡◌, refl}
use mathlib.Core.List.{List, [], ◌∷◌}
use Prim.Native.Nat.{ℕ, zero, suc}
use Rattle.machine.specs.Changes.{change_of}
use Rattle.machine.specs.Events.{Run, single, budget, change, program_in, in_state, in_force}
use Rattle.machine.specs.Runs.{step_of}
use Rattle.machine.specs.Trails.{step_on, budget_on, change_on, back_by, back_of, Visit, visit_program, run_now, run_then, visit_of, Move, event, step_back, move, visit_after, retried, tried_on, visit_history}
use Rattle.machine.specs.declared.Behind.{Behind}
use Rattle.machine.specs.declared.State.{State}
use Rattle.runs.proofs.Always.{All, all_none, all_append, all_map, in-keeps, in_all, budget-keeps, tried-keeps}
use Rattle.machine.specs.Denials.{Grant}

-- of the run that it has come to, and of the one that it goes back to at most
abbrev pub Both : (Run → Type 0) → Visit → Type 0
Both I v = I (run_now v) × I (run_then v)

module _ (I : Run → Type 0)
    (steps : (r : Run) → I r → I (in_state r (step_of (program_in r) r.state).state))
    (taken : (new : List ℕ) (r : Run) → I r → change_of r.image new r.state ≡ Ok tt → I (record { image = new; state = r.state })) where
  under : (r : Run) → (s : State) → I (in_state r s) → I (in_state r (step_of (program_in r) s).state)
  under r s i = steps (in_state r s) i

  change-both : (new : List ℕ) (v : Visit) → Both I v → (c : Grant) → change_of v.image new v.trail.state ≡ c → Both I (record { image = in_force c v.image new; trail = change_on v.trail c })
  unfolding in_force change_on
  change-both new v i (Ok _) e = (taken new (run_now v) i.0 e, taken new (run_now v) i.0 e)
  change-both new v i (Err why) e = i

  back-both : (v : Visit) → Both I v → (b : Behind) → Both I (record { image = v.image; trail = (back_by (visit_program v) v.trail b).trail })
  unfolding back_by
  back-both v i Behind.Past = i
  back-both v i (Behind.Steps zero) = i
  back-both v i (Behind.Steps (suc m)) = (in-keeps (visit_program v) (λ s. I (in_state (run_now v) s)) (under (run_now v)) v.trail.start m v.trail.start.status i.1, i.1)

  pub move-both : (m : Move) (v : Visit) → Both I v → Both I (move m v).visit
  unfolding move step_on budget_on back_of
  move-both (event single) v i = (steps (run_now v) i.0, i.1)
  move-both (event (budget n buffer)) v i = (budget-keeps (visit_program v) (λ s. I (in_state (run_now v) s)) (under (run_now v)) v.trail.state n buffer i.0, i.1)
  move-both (event (change new)) v i = change-both new v i (change_of v.image new v.trail.state) refl
  move-both step_back v i = back-both v i v.trail.behind

  visit-both : (ms : List Move) (v : Visit) → Both I v → Both I (visit_after ms v)
  unfolding visit_after
  visit-both [] v i = i
  visit-both (m ∷ ms) v i = visit-both ms (move m v).visit (move-both m v i)

  retried-all : (r : Run) (s : State) → I (in_state r s) → (b : Behind) → All (λ (u : State). I (in_state r u)) (retried (program_in r) s b)
  unfolding retried
  retried-all r s i Behind.Past = all_none (λ (u : State). I (in_state r u))
  retried-all r s i (Behind.Steps zero) = all_none (λ (u : State). I (in_state r u))
  retried-all r s i (Behind.Steps (suc m)) = in_all (program_in r) (λ (u : State). I (in_state r u)) (under r) s m s.status i

  move_all : (m : Move) (v : Visit) → Both I v → All I (tried_on m v)
  unfolding tried_on
  move_all (event e) v i = tried-keeps I steps taken e (run_now v) i.0
  move_all step_back v i = all_map I (in_state (run_now v)) (retried (visit_program v) v.trail.start v.trail.behind) (retried-all (run_now v) v.trail.start i.1 v.trail.behind)

  history-all : (ms : List Move) (v : Visit) → Both I v → All I (visit_history ms v)
  unfolding visit_history
  history-all [] v i = all_none I
  history-all (m ∷ ms) v i = all_append I (tried_on m v) (visit_history ms (move m v).visit) (move_all m v i) (history-all ms (move m v).visit (move-both m v i))

  -- THE LAW: after a list of moves from a run,
  pub visit-after-keeps : (ms : List Move) (r : Run) → I r → I (run_now (visit_after ms (visit_of r)))
  visit-after-keeps ms r i = (visit-both ms (visit_of r) (i, i)).0

  -- and wherever a step was tried
  pub visit-history-keeps : (ms : List Move) (r : Run) → I r → All I (visit_history ms (visit_of r))
  visit-history-keeps ms r i = history-all ms (visit_of r) (i, i)
