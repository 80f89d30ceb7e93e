-- A budget is so many single steps: step by step along the budget.
use mathlib.Core.Path.{◌≡◌, refl, ap}
use mathlib.Core.List.{List, ◌∷◌, map}
use mathlib.Core.Bool.{Bool, true, false}
use Prim.Native.Nat.{ℕ, zero, suc, ◌+◌}
use lib.IntN.{ℤ}
use lib.ListN.{length}
use Rattle.machine.specs.Events.{Run, single, budget, program_in, in_state, handle_to, after, after_to, onward, tried_under, tried_in, tried_by, tried, history}
use Rattle.machine.specs.Runs.{step_of, continued, run_from, run_from_to, budget_in, budget_in_to, long_enough, budget_of, budget_of_to}
use Rattle.machine.specs.declared.Said.{Said}
use Rattle.machine.specs.declared.State.{State}
use Rattle.machine.specs.declared.Status.{Status}
use Rattle.runs.specs.Singles.{singles, BudgetIsSteps}

module _ (r : Run) where
  -- runs in these states, and the run that is left: as so many single steps from s have it
  abbrev Alike : List Run → State → State → Type 0
  Alike bs t s = (bs ≡ history (singles (length bs)) (in_state r s)) × (in_state r t ≡ after (singles (length bs)) (in_state r s))

  -- a run that goes on, behind n steps
  under-steps : (m : ℕ) (s : State) (n : ℕ) → Alike (map (in_state r) (tried_under (program_in r) m s)) (run_from (program_in r) m s n).state s
  unfolding tried_under onward run_from_to continued history tried after_to handle_to
  under-steps zero s n = (refl, refl)
  under-steps (suc m) s n = go (step_of (program_in r) s).said (under-steps m (step_of (program_in r) s).state (n + 1))
    where
      t : State
      t = (step_of (program_in r) s).state

      go : (d : Said) → Alike (map (in_state r) (tried_under (program_in r) m t)) (run_from (program_in r) m t (n + 1)).state t → Alike (in_state r s ∷ map (in_state r) (onward t d (λ u. tried_under (program_in r) m u))) (continued t d n (λ u. run_from (program_in r) m u (n + 1))).state s
      go Said.GoesOn ih = (ap (λ (bs : List Run). in_state r s ∷ bs) ih.0, ih.1)
      go (Said.Ended e) ih = (refl, refl)
      go Said.Stuck ih = (refl, refl)

  -- a budget that is not refused
  in-steps : (s : State) (n : ℕ) (st : Status) → Alike (map (in_state r) (tried_in (program_in r) s n st)) (budget_in (program_in r) s n st).state s
  unfolding tried_in budget_in_to history after_to
  in-steps s n Status.Running = under-steps n s 0
  in-steps s n (Status.Ended e) = (refl, refl)

  -- any budget
  by-steps : (s : State) (n : ℕ) (buffer : List ℤ) → Alike (map (in_state r) (tried_by (program_in r) s n buffer)) (budget_of (program_in r) s n buffer).state s
  unfolding tried_by budget_of_to history after_to
  by-steps s n buffer = go (long_enough buffer) refl
    where
      go : (b : Bool) → long_enough buffer ≡ b → Alike (map (in_state r) (tried_by (program_in r) s n buffer)) (budget_of (program_in r) s n buffer).state s
      go true e = rw (e, tried_by, budget_of_to) (in-steps s n s.status)
      go false e = rw (e, tried_by, budget_of_to) (refl, refl)

-- THE LAW: a budget is so many single steps
pub budget-is-steps : BudgetIsSteps
unfolding BudgetIsSteps tried handle_to
budget-is-steps n buffer r = by-steps r r.state n buffer
