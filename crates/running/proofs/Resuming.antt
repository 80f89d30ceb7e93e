-- Budgets and single steps of any state.
use mathlib.Core.Path.{◌≡◌, refl, sym, ap, ◌∙◌, subst}
use mathlib.Core.List.{List}
use Prim.Native.Nat.{ℕ, zero, suc, ◌+◌, ◌<◌}
use native.Mathlib.Omega.{arith}
use lib.IntN.{ℤ}
use lib.ListN.{get_or-replicate, length, length-replicate, replicate}
use Rattle.matching.specs.Choosing.{Cached}
use Rattle.matching.proofs.Caching.{cached-none}
use Rattle.layout.specs.Records.{◌!◌}
use Rattle.program.specs.Program.{Program}
use Rattle.machine.specs.Allowed.{budget_in_with, run_with, step_in_with, step_with}
use Rattle.machine.specs.Runs.{continued}
use Rattle.machine.specs.States.{VECTORS}
use Rattle.machine.specs.declared.Answer.{Answer}
use Rattle.machine.specs.declared.End.{End}
use Rattle.machine.specs.declared.Ran.{Ran as Outcome}
use Rattle.machine.specs.declared.Said.{Said}
use Rattle.machine.specs.declared.State.{State}
use Rattle.machine.specs.declared.Status.{Status}
use Rattle.machine.specs.declared.Stepped.{Stepped}
use Rattle.runs.proofs.Caps.{in-64, step-64}
use Rattle.store.specs.Store.{ENDING, STATUS, ◌#◌, state_in, status_of}
use Rattle.loaded.specs.Loaded.{program_in}
use Rattle.running.specs.Budgets.{Ran, Resumes, ResumesWith, Steps, StepsWith, answer_of, outcome_in, said_of}
use Rattle.running.specs.declared.Counted.{Counted}
use Rattle.running.specs.declared.Pause.{Pause}
use Rattle.store.proofs.Statuses.{ended_by}

-- ---- a budget

pub resume-ended : (most : ℕ) (P : Program) (b : List ℕ) (n : List ℤ) (budget : ℕ) → (b ! STATUS ≡ 0 → ⊥) → ResumesWith most (record { pause = Pause.Ended; steps = 0 }) P b n b n budget
unfolding budget_in_with answer_of state_in
resume-ended most P b n budget h = let E = ended_by (b ! STATUS) h (b ! (STATUS + 1)) (n # ENDING) in record {
  ran = rw E.1 refl;
  over = λ _. (E.0, E.1);
  stuck = λ e. let z : ◌≡◌ {A = ℕ} 0 1 = cc in absurd (omega arith);
  none = λ _. (refl, refl);
  ended = λ e q. (refl, refl);
}

pub resume-runs : (most : ℕ) (s t b : List ℕ) (n : List ℤ) (b' : List ℕ) (n' : List ℤ) (budget : ℕ) (r : Counted) → b ! STATUS ≡ 0 → Ran r s t b n b' n' most budget → ResumesWith most r
    (program_in s t) b n b' n' budget
unfolding budget_in_with state_in status_of
resume-runs most s t b n b' n' budget r z R = record {
  ran = ap (budget_in_with most (program_in s t) (state_in b n) budget) (going z) ∙ R.ran;
  over = R.over;
  stuck = R.stuck;
  none = R.none;
  ended = λ e q. let o = sym (going z) ∙ q in absurd (running-ended e o);
}
  where
    going : b ! STATUS ≡ 0 → (state_in b n).status ≡ Status.Running
    going z = rw z refl

    running-ended : (e : End) → Status.Running ≡ Status.Ended e → ⊥
    running-ended e h = let o : ◌≡◌ {A = ℕ} 0 1 = cc in omega arith

-- ---- a single step is a budget of one

-- what a budget of one answers to what a step says
unfoldable answers : Said → Answer
answers Said.GoesOn = Answer.Steps
answers (Said.Ended e) = Answer.Ended e
answers Said.Stuck = Answer.Stuck

said-is : (d : Said) (x : Pause) (st : Status) → answers d ≡ answer_of x st → d ≡ said_of x st
unfolding answers answer_of said_of
said-is Said.GoesOn Pause.Steps st e = refl
said-is Said.GoesOn Pause.Stuck st e = let o : ◌≡◌ {A = ℕ} 0 1 = cc in absurd (omega arith)
said-is Said.GoesOn Pause.Ended Status.Running e = refl
said-is Said.GoesOn Pause.Ended (Status.Ended f) e = let o : ◌≡◌ {A = ℕ} 0 1 = cc in absurd (omega arith)
said-is (Said.Ended f) Pause.Steps st e = let o : ◌≡◌ {A = ℕ} 0 1 = cc in absurd (omega arith)
said-is (Said.Ended f) Pause.Stuck st e = let o : ◌≡◌ {A = ℕ} 0 1 = cc in absurd (omega arith)
said-is (Said.Ended f) Pause.Ended Status.Running e = let o : ◌≡◌ {A = ℕ} 0 1 = cc in absurd (omega arith)
said-is (Said.Ended f) Pause.Ended (Status.Ended g) e = let q : f ≡ g = cc in ap Said.Ended q
said-is Said.Stuck Pause.Steps st e = let o : ◌≡◌ {A = ℕ} 0 1 = cc in absurd (omega arith)
said-is Said.Stuck Pause.Stuck st e = refl
said-is Said.Stuck Pause.Ended Status.Running e = let o : ◌≡◌ {A = ℕ} 0 1 = cc in absurd (omega arith)
said-is Said.Stuck Pause.Ended (Status.Ended f) e = let o : ◌≡◌ {A = ℕ} 0 1 = cc in absurd (omega arith)

-- the outcome of a step and no more
one-by : (most : ℕ) (P : Program) (w : State) (d : Said) → ((continued w d 0 (λ u. run_with most P 0 u 1)).state ≡ w) × ((continued w d 0 (λ u. run_with most P 0 u 1)).answer ≡ answers d) ×
    (d ≡ Said.Stuck → (continued w d 0 (λ u. run_with most P 0 u 1)).steps ≡ 0)
unfolding continued run_with answers
one-by most P w Said.GoesOn = (refl, refl, λ h. let o : ◌≡◌ {A = ℕ} 0 1 = cc in absurd (omega arith))
one-by most P w (Said.Ended e) = (refl, refl, λ h. let o : ◌≡◌ {A = ℕ} 0 1 = cc in absurd (omega arith))
one-by most P w Said.Stuck = (refl, refl, λ h. refl)

stuck-said : (x : Pause) (st : Status) → x ≡ Pause.Stuck → said_of x st ≡ Said.Stuck
unfolding said_of
stuck-said x st h = ap (λ y. said_of y st) h

-- an end is said again
end-said : (x : Pause) (st : Status) (e : End) → Answer.Ended e ≡ answer_of x st → Said.Ended e ≡ said_of x st
unfolding answers
end-said x st e h = said-is (Said.Ended e) x st (answered ∙ h)
  where
    answered : answers (Said.Ended e) ≡ Answer.Ended e
    answered = refl

module _ (most : ℕ) (P : Program) (b : List ℕ) (n : List ℤ) (b' : List ℕ) (n' : List ℤ) (r : Counted) (R : ResumesWith most r P b n b' n' 1) where
  ended-step : (e : End) → (state_in b n).status ≡ Status.Ended e → step_with most P (state_in b n) ≡ record { state = state_in b' n'; said = said_of r.pause (state_in b' n').status }
  unfolding step_with step_in_with budget_in_with
  ended-step e q =
      let o : record { state = state_in b n; answer = Answer.Ended e; steps = 0 } ≡ outcome_in r b' n' = ap (budget_in_with most P (state_in b n) 1) (sym q) ∙ R.ran in
      let w : state_in b n ≡ state_in b' n' = ap (λ (x : Outcome). x.state) o in
      let d : Said.Ended e ≡ said_of r.pause (state_in b' n').status = end-said _ _ e (ap (λ (x : Outcome). x.answer) o) in
      ap (step_in_with most P (state_in b n)) q ∙ (λ i. record { state = w i; said = d i })

  running-step : (state_in b n).status ≡ Status.Running → (step_with most P (state_in b n) ≡ record { state = state_in b' n'; said = said_of r.pause (state_in b' n').status }) ×
      (r.pause ≡ Pause.Stuck → r.steps ≡ 0)
  unfolding budget_in_with run_with
  running-step q =
      let e : continued (step_with most P (state_in b n)).state (step_with most P (state_in b n)).said 0 (λ u. run_with most P 0 u 1) ≡ outcome_in r b' n' = ap
      (budget_in_with most P (state_in b n) 1) (sym q) ∙ R.ran in
      let O = one-by most P (step_with most P (state_in b n)).state (step_with most P (state_in b n)).said in
      let w : (step_with most P (state_in b n)).state ≡ state_in b' n' = sym O.0 ∙ ap (λ (x : Outcome). x.state) e in
      let d : (step_with most P (state_in b n)).said ≡ said_of r.pause (state_in b' n').status = said-is _ _ _ (sym O.1 ∙ ap (λ (x : Outcome). x.answer) e) in
      ((λ i. record { state = w i; said = d i }), λ h. sym (ap (λ (x : Outcome). x.steps) e) ∙ O.2 (d ∙ stuck-said r.pause (state_in b' n').status h))

  -- by how the run goes
  settled-by : (st : Status) → (state_in b n).status ≡ st → StepsWith most r.pause P b n b' n'
  settled-by Status.Running q = let S = running-step q in record { stepped = S.0; over = R.over; stuck = λ h. R.stuck h (S.1 h); ended = R.ended }
  settled-by (Status.Ended e) q =
      let K = R.ended e q in
      record { stepped = ended-step e q; over = R.over; stuck = λ _. K; ended = R.ended }

  pub step_by : StepsWith most r.pause P b n b' n'
  step_by = settled-by (state_in b n).status refl

-- ---- with 64 vectors it is as without a pool

pub resume-all : (P : Program) (b : List ℕ) (n : List ℤ) (b' : List ℕ) (n' : List ℤ) (budget : ℕ) (r : Counted) → ResumesWith VECTORS r P b n b' n' budget → Resumes r P b n b' n' budget
resume-all P b n b' n' budget r R = record { ran = sym (in-64 P (state_in b n) budget (state_in b n).status) ∙ R.ran; over = R.over; stuck = R.stuck; none = R.none; ended = R.ended }

pub step-all : (P : Program) (b : List ℕ) (n : List ℤ) (b' : List ℕ) (n' : List ℤ) (r : Pause) → StepsWith VECTORS r P b n b' n' → Steps r P b n b' n'
step-all P b n b' n' r S = record { stepped = sym (step-64 P (state_in b n)) ∙ S.stepped; over = S.over; stuck = S.stuck; ended = S.ended }

-- a budget of one is a single step there too
pub one-step : (P : Program) (b : List ℕ) (n : List ℤ) (b' : List ℕ) (n' : List ℤ) (r : Counted) → Resumes r P b n b' n' 1 → Steps r.pause P b n b' n'
one-step P b n b' n' r R =
    step-all P b n b' n' r.pause
    (step_by VECTORS P b n b' n' r (record { ran = in-64 P (state_in b n) 1 (state_in b n).status ∙ R.ran; over = R.over; stuck = R.stuck; none = R.none; ended = R.ended }))

-- ---- the start of a budget

pub nothing-cached : (s t : List ℕ) {c : List ℕ} → c ≡ replicate 256 0 → Cached s t c
nothing-cached s t e = rw e (cached-none s t (replicate 256 0) (λ i l. get_or-replicate {A = ℕ} 256 i 0 0 l) (length-replicate {A = ℕ} 256 0))
