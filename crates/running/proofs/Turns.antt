-- A turn of the loop and the run that is left.
use mathlib.Core.Path.{◌≡◌, refl, sym, ap, ◌∙◌}
use Prim.Native.Nat.{ℕ, suc, ◌+◌, ◌-◌, ◌<◌, ◌≤◌}
use native.Mathlib.Numerals.{add-one}
use native.Mathlib.Omega.{arith}
use Rattle.program.specs.Program.{Program}
use Rattle.machine.specs.Allowed.{advance_with, run_with, step_in_with, step_with}
use Rattle.machine.specs.Runs.{continued, last_step, saying, settled}
use Rattle.machine.specs.States.{with_end}
use Rattle.machine.specs.Try.{got, stuck, stop}
use Rattle.machine.specs.declared.Answer.{Answer}
use Rattle.machine.specs.declared.End.{End}
use Rattle.machine.specs.declared.Ran.{Ran}
use Rattle.machine.specs.declared.State.{State}
use Rattle.machine.specs.declared.Status.{Status}

-- a budget that is left has a step
left : (budget n : ℕ) → n < budget → budget - n ≡ suc (budget - (n + 1))
left budget n h =
    let e : budget - n ≡ (budget - (n + 1)) + 1 = omega arith in
    e ∙ add-one (budget - (n + 1))

module _ (most : ℕ) (P : Program) (s : State) (goes : s.status ≡ Status.Running) (budget n : ℕ) (h : n < budget) where
  -- one step of what is left
  one : run_with most P (budget - n) s n ≡ continued (settled s (advance_with most P s)).state (settled s (advance_with most P s)).said n (λ t. run_with most P (budget - (n + 1)) t (n + 1))
  unfolding run_with step_with step_in_with
  one = rw (left budget n h, goes) refl

  pub turn_on : (t : State) → advance_with most P s ≡ got t → t.status ≡ Status.Running → run_with most P (budget - n) s n ≡ run_with most P (budget - (n + 1)) t (n + 1)
  unfolding continued settled saying
  turn_on t e r = one ∙ rw (e, r) refl

  pub turn-done : (t : State) (x : End) → advance_with most P s ≡ got t → t.status ≡ Status.Ended x → run_with most P (budget - n) s n ≡ record
      { state = t; answer = Answer.Ended x; steps = n + last_step x }
  unfolding continued settled saying
  turn-done t x e r = one ∙ rw (e, r) refl

  pub turn-stuck : advance_with most P s ≡ stuck → run_with most P (budget - n) s n ≡ record { state = s; answer = Answer.Stuck; steps = n }
  unfolding continued settled
  turn-stuck e = one ∙ rw e refl

  pub turn-stop : (x : End) → advance_with most P s ≡ stop x → run_with most P (budget - n) s n ≡ record { state = with_end s s.result x; answer = Answer.Ended x; steps = n + last_step x }
  unfolding continued settled
  turn-stop x e = one ∙ rw e refl

-- no budget is left
pub turn-none : (most : ℕ) (P : Program) (s : State) (budget n : ℕ) → budget ≤ n → run_with most P (budget - n) s n ≡ record { state = s; answer = Answer.Steps; steps = n }
unfolding run_with
turn-none most P s budget n h =
    let e : budget - n ≡ 0 = omega arith in
    rw e refl
