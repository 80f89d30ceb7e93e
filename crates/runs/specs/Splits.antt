-- A budget given in two parts comes to the same as one: the statement alone.
use Rattle.std.specs.Prelude.{◌≡◌, ◌≢◌, List, true, ℕ, ◌+◌, ℤ}
use Rattle.program.specs.Program.{Program}
use Rattle.machine.specs.Runs.{long_enough, budget_of}
use Rattle.machine.specs.declared.Answer.{Answer}
use Rattle.machine.specs.declared.Ran.{Ran}
use Rattle.machine.specs.declared.State.{State}

-- the second of two runs ends where the one does, and takes the steps that the first left
pub record Joins (r1 r2 r : Ran) : Type 0 where
  pub state : r2.state ≡ r.state
  pub steps : r1.steps + r2.steps ≡ r.steps
  pub answer : r1.answer ≢ Answer.Stuck → r2.answer ≡ r.answer

-- a budget of m and then one of n, neither refused, leave the state that one of m + n leaves, and their steps add up
unfoldable pub BudgetSplits : Type 0
BudgetSplits =
    (P : Program) (s : State) (m n : ℕ) (b₁ b₂ b₃ : List ℤ) → long_enough b₁ ≡ true → long_enough b₂ ≡ true → long_enough b₃ ≡ true
    → Joins (budget_of P s m b₁) (budget_of P (budget_of P s m b₁).state n b₂) (budget_of P s (m + n) b₃)
