-- The history that demand 3 speaks of is that of the budget: its states are those in which smaller budgets stop with STEPS, as many as steps were tried. The statements alone.
use Rattle.std.specs.Prelude.{◌≡◌, ◌↔◌, ℕ, suc, ◌+◌, ◌-◌, ◌<◌, ℤ, length}
use mathlib.Core.List.{List, Memᴰ}
use Rattle.program.specs.Program.{Program}
use Rattle.machine.specs.Events.{tried_by}
use Rattle.machine.specs.Runs.{budget_of, last_step, step_of}
use Rattle.machine.specs.declared.Answer.{Answer}
use Rattle.machine.specs.declared.Ran.{Ran}
use Rattle.machine.specs.declared.State.{State}
use Rattle.machine.specs.declared.Status.{Status}

-- one of the first m of these runs stops with STEPS in b
abbrev pub Stops : (ℕ → Ran) → ℕ → State → Type 0
Stops run m b = (j : ℕ) × (j < m) × ((run j).answer ≡ Answer.Steps) × ((run j).state ≡ b)

-- a step is tried in b exactly where a smaller budget, with the same buffer, stops with STEPS in b
abbrev pub TriedWhere : Program → State → ℕ → List ℤ → State → Type 0
TriedWhere P s m buffer b = Memᴰ b (tried_by P s m buffer) ↔ Stops (λ j. budget_of P s j buffer) m b

-- one more in the budget is one more single step, where it stopped with STEPS
abbrev pub Linked : Program → State → ℕ → List ℤ → Type 0
Linked P s j buffer = (budget_of P s j buffer).answer ≡ Answer.Steps → (budget_of P s (suc j) buffer).state ≡ (step_of P (budget_of P s j buffer).state).state

-- the steps tried that are not among those of an answer: one that was stuck, or that DEEP, VECTORS or PROMISES stopped
unfoldable pub untaken : Answer → ℕ
untaken (Answer.Refused q p) = 0
untaken Answer.Steps = 0
untaken (Answer.Ended e) = 1 - last_step e
untaken Answer.Stuck = 1

-- as many states as steps tried
abbrev pub TriedCount : Program → State → ℕ → List ℤ → Type 0
TriedCount P s n buffer = length (tried_by P s n buffer) ≡ (budget_of P s n buffer).steps + untaken (budget_of P s n buffer).answer

-- So for every program, state, budget and buffer; they are counted on a run that goes on
pub record BudgetHistory : Type 0 where
  pub tried : (P : Program) (s : State) (m : ℕ) (buffer : List ℤ) (b : State) → TriedWhere P s m buffer b
  pub linked : (P : Program) (s : State) (j : ℕ) (buffer : List ℤ) → Linked P s j buffer
  pub count : (P : Program) (s : State) (n : ℕ) (buffer : List ℤ) → s.status ≡ Status.Running → TriedCount P s n buffer
