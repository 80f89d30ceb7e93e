-- How a state stands behind a start, in steps that count.
use mathlib.Core.Path.{◌≡◌, refl, sym, ap, ◌∙◌}
use mathlib.Core.List.{List}
use mathlib.Core.Bool.{Bool, true, false}
use Prim.Native.Nat.{ℕ, zero, suc, ◌+◌, ◌≤◌}
use native.Mathlib.Nat.{add-zero, zero-add}
use native.Mathlib.Numerals.{add-one}
use native.Mathlib.Omega.{arith}
use lib.IntN.{ℤ, pos}
use lib.ListN.{replicate}
use Rattle.program.specs.Program.{Program}
use Rattle.machine.specs.Runs.{step_in_to, step_of, step_of_to, last_step, continued, run_from, run_from_to, budget_in, budget_in_to, long_enough, budget_of, budget_of_to}
use Rattle.machine.specs.Trails.{steps_by, state_after}
use Rattle.machine.specs.declared.End.{End}
use Rattle.machine.specs.declared.Ran.{Ran}
use Rattle.machine.specs.declared.Said.{Said}
use Rattle.machine.specs.declared.State.{State}
use Rattle.machine.specs.declared.Status.{Status}
use Rattle.runs.specs.Splits.{BudgetSplits}
use Rattle.runs.specs.Backs.{At, gone, stopped, taken_of}
use Rattle.runs.proofs.Splits.{budget-long, budget-splits, run-counts, step-goes, step-ended, step-stuck}

-- ---- n steps and then m

pub lent : List ℤ
lent = replicate 16 (pos 0)

pub lent-long : long_enough lent ≡ true
unfolding long_enough lent
lent-long = refl

pub after_more : (P : Program) (s : State) (n m : ℕ) → state_after P (state_after P s n) m ≡ state_after P s (n + m)
unfolding BudgetSplits
after_more P s n m = rw (budget-long P s n lent lent-long, budget-long P s (n + m) lent lent-long, budget-long P (state_after P s n) m lent lent-long) at (budget-splits P s n m lent lent lent lent-long lent-long lent-long).state

-- one step more, of a state that goes on: whatever it says
pub after_one : (P : Program) (s : State) → s.status ≡ Status.Running → state_after P s 1 ≡ (step_of P s).state
unfolding budget_in_to run_from_to continued
after_one P s h = ap (λ (st : Status). (budget_in P s 1 st).state) h ∙ go (step_of P s).said refl
  where
    go : (d : Said) → (step_of P s).said ≡ d → (continued (step_of P s).state d 0 (λ t. run_from P 0 t (0 + 1))).state ≡ (step_of P s).state
    go Said.GoesOn e = refl
    go (Said.Ended x) e = refl
    go Said.Stuck e = refl

-- no step
pub after_none : (P : Program) (s : State) → state_after P s 0 ≡ s
unfolding budget_in_to run_from_to
after_none P s = go s.status
  where
    go : (st : Status) → (budget_in P s 0 st).state ≡ s
    go Status.Running = refl
    go (Status.Ended e) = refl

-- an ended run
ended-step : (P : Program) (s : State) (e : End) → s.status ≡ Status.Ended e → (step_of P s).state ≡ s
unfolding step_of_to step_in_to
ended-step P s e h = rw h refl

-- ---- where a state stands behind its start

module _ (P : Program) (start : State) where
  -- a step of a run that goes on
  at-running : (n : ℕ) (s : State) → s ≡ state_after P start n → s.status ≡ Status.Running → (d : Said) → (step_of P s).said ≡ d → At P start (n + steps_by Status.Running d) (step_of P s).state
  unfolding steps_by last_step
  at-running n s e h Said.GoesOn q = gone (sym (after_one P s h) ∙ ap (λ (u : State). state_after P u 1) e ∙ after_more P start n 1)
  at-running n s e h (Said.Ended x) q = ends x q
    where
      one : (step_of P s).state ≡ state_after P start (n + 1)
      one = sym (after_one P s h) ∙ ap (λ (u : State). state_after P u 1) e ∙ after_more P start n 1

      none : (x : End) → last_step x ≡ 0 → (step_of P s).said ≡ Said.Ended x → At P start (n + 0) (step_of P s).state
      none x z q = rw (add-zero n) (stopped x (ap (λ (u : State). (step_of P u).said) (sym e) ∙ q) z (ap (λ (u : State). (step_of P u).state) e))

      ends : (x : End) → (step_of P s).said ≡ Said.Ended x → At P start (n + last_step x) (step_of P s).state
      ends (End.Integer z) q = gone one
      ends (End.Vector k) q = gone one
      ends End.Undef q = gone one
      ends End.Deep q = none End.Deep refl q
      ends End.Vectors q = none End.Vectors refl q
      ends End.Promises q = none End.Promises refl q
  at-running n s e h Said.Stuck q = rw (add-zero n) (gone (step-stuck P s q ∙ e))

  -- what is stopped has ended
  stopped-ended : (n : ℕ) (s : State) (e : End) → (step_of P (state_after P start n)).said ≡ Said.Ended e → s ≡ (step_of P (state_after P start n)).state → s.status ≡ Status.Ended e
  stopped-ended n s e q i = ap (λ (u : State). u.status) i ∙ step-ended P (state_after P start n) e q

  -- a run that goes on is not stopped
  pub at_goes : (n : ℕ) (s : State) → At P start n s → s.status ≡ Status.Running → s ≡ state_after P start n
  at_goes n s (gone e) h = e
  at_goes n s (stopped x q z i) h = let r : Status.Running ≡ Status.Ended x = sym h ∙ stopped-ended n s x q i in let y : ◌≡◌ {A = ℕ} 0 1 = cc in absurd (omega arith)

  -- a single step
  pub at-step : (n : ℕ) (s : State) → At P start n s → At P start (n + steps_by s.status (step_of P s).said) (step_of P s).state
  unfolding steps_by
  at-step n s a = go s.status refl
    where
      go : (st : Status) → s.status ≡ st → At P start (n + steps_by st (step_of P s).said) (step_of P s).state
      go Status.Running h = at-running n s (at_goes n s a h) h (step_of P s).said refl
      go (Status.Ended e) h = rw (add-zero n, ended-step P s e h) a

  -- steps under a budget
  at-run : (m n : ℕ) (s : State) → At P start n s → s.status ≡ Status.Running → At P start (n + (run_from P m s 0).steps) (run_from P m s 0).state
  unfolding run_from_to continued steps_by
  at-run zero n s a h = rw (add-zero n) a
  at-run (suc m) n s a h = go (step_of P s).said refl (λ u k b. at-run m k u b)
    where
      one : At P start (n + steps_by Status.Running (step_of P s).said) (step_of P s).state
      one = at-running n s (at_goes n s a h) h (step_of P s).said refl

      go : (d : Said) → (step_of P s).said ≡ d → ((u : State) (k : ℕ) → At P start k u → u.status ≡ Status.Running → At P start (k + (run_from P m u 0).steps) (run_from P m u 0).state)
          → At P start (n + (continued (step_of P s).state d 0 (λ t. run_from P m t (0 + 1))).steps) (continued (step_of P s).state d 0 (λ t. run_from P m t (0 + 1))).state
      go Said.GoesOn q ih =
          let u = (step_of P s).state in
          let x : (run_from P m u 1).steps ≡ 1 + (run_from P m u 0).steps = ap (λ (r : Ran). r.steps) (run-counts P m u 1) in
          let y : (run_from P m u 1).state ≡ (run_from P m u 0).state = ap (λ (r : Ran). r.state) (run-counts P m u 1) in
          let z : n + (run_from P m u 1).steps ≡ n + 1 + (run_from P m u 0).steps = omega (arith, x) in
          rw (z, y) (ih u (n + 1) (rw q at one) (step-goes P s q))
      go (Said.Ended x) q ih = rw (zero-add (last_step x)) (rw q at one)
      go Said.Stuck q ih = rw q at one

  -- a budget, refused or not
  pub at-budget : (n : ℕ) (s : State) (m : ℕ) (buffer : List ℤ) → At P start n s → At P start (n + (budget_of P s m buffer).steps) (budget_of P s m buffer).state
  unfolding budget_of_to budget_in_to
  at-budget n s m buffer a = go (long_enough buffer) refl
    where
      under : (st : Status) → s.status ≡ st → At P start (n + (budget_in P s m st).steps) (budget_in P s m st).state
      under Status.Running h = at-run m n s a h
      under (Status.Ended e) h = rw (add-zero n) a

      go : (o : Bool) → long_enough buffer ≡ o → At P start (n + (budget_of P s m buffer).steps) (budget_of P s m buffer).state
      go true h = rw (h, budget_of_to) (under s.status refl)
      go false h = rw (h, budget_of_to, add-zero n) a

-- ---- how many steps are taken

-- no more than the budget has
run-most : (P : Program) (m : ℕ) (s : State) → (run_from P m s 0).steps ≤ m
unfolding run_from_to continued last_step
run-most P zero s = omega arith
run-most P (suc m) s = go (step_of P s).said (run-most P m (step_of P s).state)
  where
    last : (x : End) → 0 + last_step x ≤ suc m
    last (End.Integer z) = omega arith
    last (End.Vector k) = omega arith
    last End.Undef = omega arith
    last End.Deep = omega arith
    last End.Vectors = omega arith
    last End.Promises = omega arith

    go : (d : Said) → (run_from P m (step_of P s).state 0).steps ≤ m → (continued (step_of P s).state d 0 (λ t. run_from P m t (0 + 1))).steps ≤ suc m
    go Said.GoesOn h = let x = ap (λ (r : Ran). r.steps) (run-counts P m (step_of P s).state 1) in omega (arith, x, h)
    go (Said.Ended x) h = last x
    go Said.Stuck h = omega arith

pub taken-most : (P : Program) (s : State) (n : ℕ) → taken_of P s n ≤ n
unfolding budget_in_to
taken-most P s n = go s.status
  where
    go : (st : Status) → (budget_in P s n st).steps ≤ n
    go Status.Running = run-most P n s
    go (Status.Ended e) = omega arith

one_more : (k : ℕ) → 1 + k ≡ suc k
one_more k = omega arith

-- a budget of as many steps as were taken takes them all
run-exact : (P : Program) (m : ℕ) (s : State) → (run_from P (run_from P m s 0).steps s 0).steps ≡ (run_from P m s 0).steps
unfolding run_from_to continued last_step
run-exact P zero s = refl
run-exact P (suc m) s = go (step_of P s).said refl (run-exact P m (step_of P s).state)
  where
    u : State
    u = (step_of P s).state

    -- the steps of a run whose first step says this
    first : ℕ → Said → ℕ
    first zero d = 0
    first (suc k) d = (continued u d 0 (λ t. run_from P k t (0 + 1))).steps

    is-first : (k : ℕ) (d : Said) → (step_of P s).said ≡ d → (run_from P k s 0).steps ≡ first k d
    is-first zero d e = refl
    is-first (suc k) d e = ap (λ (x : Said). (continued u x 0 (λ t. run_from P k t (0 + 1))).steps) e

    last : (x : End) → first (0 + last_step x) (Said.Ended x) ≡ 0 + last_step x
    last (End.Integer z) = refl
    last (End.Vector k) = refl
    last End.Undef = refl
    last End.Deep = refl
    last End.Vectors = refl
    last End.Promises = refl

    go : (d : Said) → (step_of P s).said ≡ d → (run_from P (run_from P m u 0).steps u 0).steps ≡ (run_from P m u 0).steps
        → (run_from P (continued u d 0 (λ t. run_from P m t (0 + 1))).steps s 0).steps ≡ (continued u d 0 (λ t. run_from P m t (0 + 1))).steps
    go Said.GoesOn e ih =
        let k = (run_from P m u 0).steps in
        let x : (run_from P m u 1).steps ≡ suc k = ap (λ (r : Ran). r.steps) (run-counts P m u 1) ∙ one_more k in
        let z : (run_from P k u 1).steps ≡ suc k = ap (λ (r : Ran). r.steps) (run-counts P k u 1) ∙ one_more (run_from P k u 0).steps ∙ ap suc ih in
        ap (λ (n : ℕ). (run_from P n s 0).steps) x ∙ is-first (suc k) Said.GoesOn e ∙ z ∙ sym x
    go (Said.Ended x) e ih = is-first (0 + last_step x) (Said.Ended x) e ∙ last x
    go Said.Stuck e ih = refl

exact-taken : (P : Program) (s : State) (m : ℕ) → taken_of P s (taken_of P s m) ≡ taken_of P s m
unfolding budget_in_to
exact-taken P s m = go s.status
  where
    go : (st : Status) → (budget_in P s (budget_in P s m st).steps st).steps ≡ (budget_in P s m st).steps
    go Status.Running = run-exact P m s
    go (Status.Ended e) = refl

-- n steps and then k
pub taken_more : (P : Program) (s : State) (n k : ℕ) → taken_of P s (n + k) ≡ taken_of P s n + taken_of P (state_after P s n) k
unfolding BudgetSplits
taken_more P s n k = sym (rw (budget-long P s n lent lent-long, budget-long P s (n + k) lent lent-long, budget-long P (state_after P s n) k lent lent-long) at (budget-splits P s n k lent lent lent lent-long lent-long lent-long).steps)

-- a single step of a run that goes on is a budget of one
pub one-taken : (P : Program) (s : State) → s.status ≡ Status.Running → taken_of P s 1 ≡ steps_by Status.Running (step_of P s).said
unfolding budget_in_to run_from_to continued steps_by
one-taken P s h = ap (λ (st : Status). (budget_in P s 1 st).steps) h ∙ go (step_of P s).said
  where
    go : (d : Said) → (continued (step_of P s).state d 0 (λ t. run_from P 0 t (0 + 1))).steps ≡ steps_by Status.Running d
    go Said.GoesOn = refl
    go (Said.Ended x) = zero-add (last_step x)
    go Said.Stuck = refl

-- what a further budget takes is taken behind the start too
pub then-taken : (P : Program) (start s : State) (n m : ℕ) → taken_of P start n ≡ n → s ≡ state_after P start n → taken_of P start (n + taken_of P s m) ≡ n + taken_of P s m
then-taken P start s n m all e =
    let k = taken_of P s m in
    let a = taken_more P start n k in
    let b : taken_of P (state_after P start n) k ≡ k = ap (λ (u : State). taken_of P u k) (sym e) ∙ exact-taken P s m in
    omega (arith, a, b, all)

-- one step less
pub less-taken : (P : Program) (s : State) (m : ℕ) → taken_of P s (suc m) ≡ suc m → taken_of P s m ≡ m
less-taken P s m h =
    let a = taken_more P s m 1 in
    let b : taken_of P s (m + 1) ≡ suc m = ap (taken_of P s) (add-one m) ∙ h in
    omega (arith, a, b, taken-most P s m, taken-most P (state_after P s m) 1)
