-- A single step counts what a budget of one counts.
use mathlib.Core.Path.{◌≡◌, refl, sym, ap, ◌∙◌, subst}
use mathlib.Core.List.{List}
use Prim.Native.Nat.{ℕ}
use lib.IntN.{ℤ}
use Rattle.program.specs.Program.{Program}
use Rattle.machine.specs.Runs.{budget_in, budget_in_to, step_of}
use Rattle.machine.specs.Trails.{steps_by}
use Rattle.machine.specs.declared.Ran.{Ran as Outcome}
use Rattle.machine.specs.declared.State.{State}
use Rattle.machine.specs.declared.Status.{Status}
use Rattle.store.specs.Store.{state_in}
use Rattle.runs.proofs.Counted.{one-taken}
use Rattle.running.specs.Budgets.{Resumes, Steps}
use Rattle.running.specs.declared.Counted.{Counted}
use Rattle.running.proofs.Resuming.{one-step}
use Rattle.trails.specs.Arrays.{Adds, steps_from}

-- of a run that goes on and of one that has ended
budget-of-one : (P : Program) (s : State) (st : Status) → s.status ≡ st → (budget_in P s 1 st).steps ≡ steps_by st (step_of P s).said
unfolding budget_in_to steps_by
budget-of-one P s Status.Running e = ap (λ (st : Status). (budget_in P s 1 st).steps) (sym e) ∙ one-taken P s e
budget-of-one P s (Status.Ended x) e = refl

pub step-counted : (P : Program) (b : List ℕ) (n : List ℤ) (b' : List ℕ) (n' : List ℤ) (s p s' p' : ℕ) (r : Counted) → Resumes r P b n b' n' 1 × Adds s p r.steps s' p'
    → Steps r.pause P b n b' n' × Adds s p (steps_from P b n) s' p'
step-counted P b n b' n' s p s' p' r h =
    let e : r.steps ≡ steps_from P b n = ap (λ (x : Outcome). x.steps) (sym h.0.ran) ∙ budget-of-one P (state_in b n) (state_in b n).status refl in
    (one-step P b n b' n' r h.0, subst (λ (m : ℕ). Adds s p m s' p') e h.1)
