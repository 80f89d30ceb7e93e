-- A budget given in two parts comes to the same as one: state and steps, and the answer where the first part was not stuck.
use mathlib.Core.Path.{◌≡◌, refl, sym, ap, ◌∙◌, subst}
use mathlib.Core.Logic.{◌≢◌}
use mathlib.Core.List.{List}
use mathlib.Core.Bool.{true}
use Prim.Native.Nat.{ℕ, zero, suc, ◌+◌}
use native.Mathlib.Nat.{zero-add, suc-add}
use native.Mathlib.Omega.{arith}
use lib.IntN.{ℤ}
use Rattle.program.specs.Program.{Program}
use Rattle.machine.specs.Try.{Try, got, stuck, stop}
use Rattle.machine.specs.States.{with_end}
use Rattle.machine.specs.Steps.{advance}
use Rattle.machine.specs.Runs.{saying, settled, step_in, step_in_to, step_of, step_of_to, last_step, continued, run_from, run_from_to, budget_in, budget_in_to, long_enough, budget_of, budget_of_to}
use Rattle.machine.specs.declared.Answer.{Answer}
use Rattle.machine.specs.declared.End.{End}
use Rattle.machine.specs.declared.Ran.{Ran}
use Rattle.machine.specs.declared.Said.{Said}
use Rattle.machine.specs.declared.State.{State}
use Rattle.machine.specs.declared.Status.{Status}
use Rattle.runs.specs.Splits.{Joins, BudgetSplits}

-- ---- what a step says of its state

-- only a running status goes on
says-goes : (st : Status) → saying st ≡ Said.GoesOn → st ≡ Status.Running
unfolding saying
says-goes Status.Running h = refl
says-goes (Status.Ended e) h = let z : ◌≡◌ {A = ℕ} 0 1 = cc in absurd (omega arith)

-- an end is that of the status
says-ended : (st : Status) (e : End) → saying st ≡ Said.Ended e → st ≡ Status.Ended e
unfolding saying
says-ended Status.Running e h = let z : ◌≡◌ {A = ℕ} 0 1 = cc in absurd (omega arith)
says-ended (Status.Ended x) e h = cc

-- no status is stuck
says-stuck : (st : Status) → saying st ≢ Said.Stuck
unfolding saying
says-stuck Status.Running h = let z : ◌≡◌ {A = ℕ} 0 1 = cc in omega arith
says-stuck (Status.Ended x) h = let z : ◌≡◌ {A = ℕ} 0 1 = cc in omega arith

-- where it goes on, the state is running
settled-goes : (s : State) (t : Try State) → (settled s t).said ≡ Said.GoesOn → (settled s t).state.status ≡ Status.Running
unfolding settled
settled-goes s (got t) h = says-goes t.status h
settled-goes s stuck h = let z : ◌≡◌ {A = ℕ} 0 1 = cc in absurd (omega arith)
settled-goes s (stop e) h = let z : ◌≡◌ {A = ℕ} 0 1 = cc in absurd (omega arith)

-- where it ends, the state has that end
settled-ended : (s : State) (t : Try State) (e : End) → (settled s t).said ≡ Said.Ended e → (settled s t).state.status ≡ Status.Ended e
unfolding settled with_end
settled-ended s (got t) e h = says-ended t.status e h
settled-ended s stuck e h = let z : ◌≡◌ {A = ℕ} 0 1 = cc in absurd (omega arith)
settled-ended s (stop x) e h = cc

-- where it is stuck, the state is the one before
settled-stuck : (s : State) (t : Try State) → (settled s t).said ≡ Said.Stuck → (settled s t).state ≡ s
unfolding settled
settled-stuck s (got t) h = absurd (says-stuck t.status h)
settled-stuck s stuck h = refl
settled-stuck s (stop e) h = let z : ◌≡◌ {A = ℕ} 0 1 = cc in absurd (omega arith)

module _ (P : Program) (s : State) where
  -- it goes on
  pub step-goes : (step_of P s).said ≡ Said.GoesOn → (step_of P s).state.status ≡ Status.Running
  unfolding step_of_to step_in_to
  step-goes = go s.status
    where
      go : (st : Status) → (step_in P s st).said ≡ Said.GoesOn → (step_in P s st).state.status ≡ Status.Running
      go Status.Running h = settled-goes s (advance P s) h
      go (Status.Ended e) h = let z : ◌≡◌ {A = ℕ} 0 1 = cc in absurd (omega arith)

  -- it has ended
  pub step-ended : (e : End) → (step_of P s).said ≡ Said.Ended e → (step_of P s).state.status ≡ Status.Ended e
  unfolding step_of_to step_in_to
  step-ended e = go s.status refl
    where
      go : (st : Status) → s.status ≡ st → (step_in P s st).said ≡ Said.Ended e → (step_in P s st).state.status ≡ Status.Ended e
      go Status.Running q h = settled-ended s (advance P s) e h
      go (Status.Ended x) q h = let y : x ≡ e = cc h in q ∙ ap Status.Ended y

  -- stuck, it is what it was
  pub step-stuck : (step_of P s).said ≡ Said.Stuck → (step_of P s).state ≡ s
  unfolding step_of_to step_in_to
  step-stuck = go s.status
    where
      go : (st : Status) → (step_in P s st).said ≡ Said.Stuck → (step_in P s st).state ≡ s
      go Status.Running h = settled-stuck s (advance P s) h
      go (Status.Ended e) h = refl

-- ---- the counter

-- k steps more
abbrev more : ℕ → Ran → Ran
more k r = record { state = r.state; answer = r.answer; steps = k + r.steps }

-- twice more
more-more : (k n : ℕ) (r : Ran) → more (k + n) r ≡ more k (more n r)
more-more k n r = ap (λ (x : ℕ). record { state = r.state; answer = r.answer; steps = x }) (omega arith)

-- a run counts on from where it starts
pub run-counts : (P : Program) (m : ℕ) (s : State) (k : ℕ) → run_from P m s k ≡ more k (run_from P m s 0)
unfolding run_from_to continued
run-counts P zero s k = ap (λ (x : ℕ). record { state = s; answer = Answer.Steps; steps = x }) (omega arith)
run-counts P (suc m) s k = go (step_of P s).said (λ t n. run-counts P m t n)
  where
    go : (d : Said) → ((t : State) (n : ℕ) → run_from P m t n ≡ more n (run_from P m t 0)) → continued (step_of P s).state d k (λ t. run_from P m t (k + 1)) ≡ more k (continued (step_of P s).state d 0 (λ t. run_from P m t (0 + 1)))
    go Said.GoesOn ih = ih (step_of P s).state (k + 1) ∙ more-more k 1 (run_from P m (step_of P s).state 0) ∙ ap (more k) (sym (ih (step_of P s).state 1))
    go (Said.Ended e) ih = ap (λ (x : ℕ). record { state = (step_of P s).state; answer = Answer.Ended e; steps = x }) (omega arith)
    go Said.Stuck ih = ap (λ (x : ℕ). record { state = (step_of P s).state; answer = Answer.Stuck; steps = x }) (omega arith)

-- ---- two budgets against one

-- behind k steps
joins-more : (k : ℕ) (r1 r2 r : Ran) → Joins r1 r2 r → Joins (more k r1) r2 (more k r)
joins-more k r1 r2 r j = record { state = j.state; steps = omega (arith, j.steps); answer = j.answer }

-- a second budget, on the state that a run left
abbrev further : Program → ℕ → Ran → Ran
further P n r = budget_in P r.state n r.state.status

-- a run that goes on, behind no step
goes_further : (P : Program) (s : State) (n : ℕ) → s.status ≡ Status.Running → Joins (record { state = s; answer = Answer.Steps; steps = 0 }) (budget_in P s n s.status) (run_from P n s 0)
unfolding budget_in_to
goes_further P s n h = rw h (record { state = refl; steps = omega arith; answer = λ _. refl })

-- an ended one takes no step
ended-further : (P : Program) (s : State) (n k : ℕ) (e : End) → s.status ≡ Status.Ended e → Joins (record { state = s; answer = Answer.Ended e; steps = k }) (budget_in P s n s.status) (record { state = s; answer = Answer.Ended e; steps = k })
unfolding budget_in_to
ended-further P s n k e h = rw h (record { state = refl; steps = omega arith; answer = λ _. refl })

-- a stuck one is stuck again
stuck-again : (P : Program) (s : State) (n : ℕ) → (step_of P s).said ≡ Said.Stuck → ((run_from P n s 0).state ≡ s) × ((run_from P n s 0).steps ≡ 0)
unfolding run_from_to continued
stuck-again P s zero h = (refl, refl)
stuck-again P s (suc n) h = rw h (step-stuck P s h, refl)

-- and takes no step
stuck-further : (P : Program) (s : State) (n : ℕ) → s.status ≡ Status.Running → (step_of P s).said ≡ Said.Stuck → Joins (record { state = s; answer = Answer.Stuck; steps = 0 }) (budget_in P s n s.status) (record { state = s; answer = Answer.Stuck; steps = 0 })
unfolding budget_in_to
stuck-further P s n h e = let t = stuck-again P s n e in
    subst (λ (st : Status). Joins (record { state = s; answer = Answer.Stuck; steps = 0 }) (budget_in P s n st) (record { state = s; answer = Answer.Stuck; steps = 0 })) (sym h) (record { state = t.0; steps = omega (arith, t.1); answer = λ f. absurd (f refl) })

-- a run of m steps and a further budget, by what the first step says
run-splits : (P : Program) (n m : ℕ) (s : State) → s.status ≡ Status.Running → Joins (run_from P m s 0) (further P n (run_from P m s 0)) (run_from P (m + n) s 0)
unfolding run_from_to continued
run-splits P n zero s h = rw (zero-add n) (goes_further P s n h)
run-splits P n (suc m) s h = rw (suc-add m n) (go (step_of P s).said refl (λ t g. run-splits P n m t g))
  where
    first : Said → Ran
    first d = continued (step_of P s).state d 0 (λ t. run_from P m t (0 + 1))

    whole : Said → Ran
    whole d = continued (step_of P s).state d 0 (λ t. run_from P (m + n) t (0 + 1))

    go : (d : Said) → (step_of P s).said ≡ d → ((t : State) → t.status ≡ Status.Running → Joins (run_from P m t 0) (further P n (run_from P m t 0)) (run_from P (m + n) t 0)) → Joins (first d) (further P n (first d)) (whole d)
    go Said.GoesOn e ih = rw (run-counts P m (step_of P s).state 1, run-counts P (m + n) (step_of P s).state 1) (joins-more 1 _ _ _ (ih (step_of P s).state (step-goes P s e)))
    go (Said.Ended x) e ih = ended-further P (step_of P s).state n (0 + last_step x) x (step-ended P s x e)
    go Said.Stuck e ih = subst (λ (u : State). Joins (record { state = u; answer = Answer.Stuck; steps = 0 }) (budget_in P u n u.status) (record { state = u; answer = Answer.Stuck; steps = 0 })) (sym (step-stuck P s e)) (stuck-further P s n h e)

-- ---- with buffers

-- a buffer that is long enough is not refused
pub budget-long : (P : Program) (s : State) (n : ℕ) (buffer : List ℤ) → long_enough buffer ≡ true → budget_of P s n buffer ≡ budget_in P s n s.status
unfolding budget_of_to
budget-long P s n buffer h = rw (h, budget_of_to) refl

-- THE LAW: a budget of m and then one of n, and one of m + n
pub budget-splits : BudgetSplits
unfolding BudgetSplits budget_in_to
budget-splits P s m n b1 b2 b3 h1 h2 h3 = rw (budget-long P s m b1 h1, budget-long P s (m + n) b3 h3, budget-long P (budget_in P s m s.status).state n b2 h2) (go s.status refl)
  where
    go : (st : Status) → s.status ≡ st → Joins (budget_in P s m st) (further P n (budget_in P s m st)) (budget_in P s (m + n) st)
    go Status.Running e = run-splits P n m s e
    go (Status.Ended x) e = ended-further P s n 0 x e
