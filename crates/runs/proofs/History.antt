-- The history that the claim speaks of is that of the budget: its states are those in which smaller budgets stop with STEPS, as many as steps were tried.
use mathlib.Core.Path.{◌≡◌, refl, sym}
use mathlib.Core.Logic.{◌⊎◌, ◌↔◌, inl, inr}
use mathlib.Core.List.Memᴰ
use mathlib.Core.List.{List, Memᴰ}
use mathlib.Core.Bool.{Bool, true, false}
use Prim.Native.Nat.{ℕ, zero, suc, ◌+◌, ◌-◌, ◌<◌, suc-le-suc, zero-le}
use native.Mathlib.Nat.{le_of_suc-le-suc, not-suc-le-zero}
use native.Mathlib.Omega.{arith}
use lib.IntN.{ℤ}
use lib.ListN.{length}
use Rattle.program.specs.Program.{Program}
use Rattle.machine.specs.Runs.{step_of, last_step, continued, run_from, run_from_to, budget_in, budget_in_to, long_enough, budget_of, budget_of_to}
use Rattle.machine.specs.declared.Answer.{Answer}
use Rattle.machine.specs.declared.End.{End}
use Rattle.machine.specs.declared.Ran.{Ran}
use Rattle.machine.specs.declared.Said.{Said}
use Rattle.machine.specs.declared.State.{State}
use Rattle.machine.specs.declared.Status.{Status}
use Rattle.machine.specs.Events.{onward, tried_under, tried_in, tried_by}
use Rattle.runs.specs.History.{Stops, TriedWhere, Linked, untaken, TriedCount, BudgetHistory}

-- ---- a run that goes on, behind n steps

-- STEPS is neither an end
not-ended : (e : End) → Answer.Ended e ≡ Answer.Steps → ⊥
not-ended e h = let z : ◌≡◌ {A = ℕ} 0 1 = cc in omega arith

-- nor stuck
not_stuck : Answer.Stuck ≡ Answer.Steps → ⊥
not_stuck h = let z : ◌≡◌ {A = ℕ} 0 1 = cc in omega arith

-- nor a refusal
not-refused : (q p : ℕ) → Answer.Refused q p ≡ Answer.Steps → ⊥
not-refused q p h = let z : ◌≡◌ {A = ℕ} 0 1 = cc in omega arith

-- where a step is tried, a smaller run stops
tried-stops : (P : Program) (m n : ℕ) (s b : State) → Memᴰ b (tried_under P m s) → Stops (λ j. run_from P j s n) m b
unfolding tried_under run_from_to onward continued
tried-stops P zero n s b h = absurd (Memᴰ.not-nil h)
tried-stops P (suc m) n s b h = go (λ t. tried-stops P m (n + 1) t b) (Memᴰ.cases_cons h)
  where
    more : (t : State) (o : Said) → (step_of P s).state ≡ t → (step_of P s).said ≡ o → (Memᴰ b (tried_under P m t) → Stops (λ j. run_from P j t (n + 1)) m b)
        → Memᴰ b (onward t o (λ u. tried_under P m u)) → Stops (λ j. run_from P j s n) (suc m) b
    more t Said.GoesOn et eo ih l = let r = ih l in (suc r.0, suc-le-suc r.1, rw (eo, et) r.2, rw (eo, et) r.3)
    more t (Said.Ended e) et eo ih l = absurd (Memᴰ.not-nil l)
    more t Said.Stuck et eo ih l = absurd (Memᴰ.not-nil l)

    go : ((t : State) → Memᴰ b (tried_under P m t) → Stops (λ j. run_from P j t (n + 1)) m b)
        → (b ≡ s) ⊎ Memᴰ b (onward (step_of P s).state (step_of P s).said (λ u. tried_under P m u)) → Stops (λ j. run_from P j s n) (suc m) b
    go ih (inl e) = (0, suc-le-suc zero-le, refl, sym e)
    go ih (inr l) = more _ _ refl refl (ih _) l

-- where a smaller run stops, a step is tried
stops-tried : (P : Program) (m j n : ℕ) (s : State) → j < m → (run_from P j s n).answer ≡ Answer.Steps → Memᴰ (run_from P j s n).state (tried_under P m s)
unfolding tried_under run_from_to onward continued
stops-tried P zero j n s l h = absurd (not-suc-le-zero l)
stops-tried P (suc m) zero n s l h = Memᴰ.head refl
stops-tried P (suc m) (suc j) n s l h = Memᴰ.tail (go (λ t. stops-tried P m j (n + 1) t (le_of_suc-le-suc l)) (step_of P s).state (step_of P s).said h)
  where
    go : ((t : State) → (run_from P j t (n + 1)).answer ≡ Answer.Steps → Memᴰ (run_from P j t (n + 1)).state (tried_under P m t)) → (t : State) (o : Said)
        → (continued t o n (λ u. run_from P j u (n + 1))).answer ≡ Answer.Steps → Memᴰ (continued t o n (λ u. run_from P j u (n + 1))).state (onward t o (λ u. tried_under P m u))
    go ih t Said.GoesOn e = ih t e
    go ih t (Said.Ended x) e = absurd (not-ended x e)
    go ih t Said.Stuck e = absurd (not_stuck e)

-- an end counts its step, or leaves it untaken
one-step : (e : End) → last_step e + (1 - last_step e) ≡ 1
unfolding last_step
one-step (End.Integer z) = refl
one-step (End.Vector n) = refl
one-step End.Undef = refl
one-step End.Deep = refl
one-step End.Vectors = refl
one-step End.Promises = refl

-- as many as the steps from n on
tried-length : (P : Program) (m n : ℕ) (s : State) → n + length (tried_under P m s) ≡ (run_from P m s n).steps + untaken (run_from P m s n).answer
unfolding tried_under run_from_to onward continued untaken
tried-length P zero n s = refl
tried-length P (suc m) n s = go (step_of P s).state (step_of P s).said (λ t. tried-length P m (n + 1) t)
  where
    go : (t : State) (o : Said) → ((u : State) → n + 1 + length (tried_under P m u) ≡ (run_from P m u (n + 1)).steps + untaken (run_from P m u (n + 1)).answer)
        → n + suc (length (onward t o (λ u. tried_under P m u))) ≡ (continued t o n (λ u. run_from P m u (n + 1))).steps + untaken (continued t o n (λ u. run_from P m u (n + 1))).answer
    go t Said.GoesOn ih = omega (arith, ih t)
    go t (Said.Ended e) ih = omega (arith, one-step e)
    go t Said.Stuck ih = omega arith

-- the last step, where it says what it says
last_step_lem : (t : State) (o : Said) (n : ℕ) (more : State → Ran) → ((u : State) → (more u).state ≡ u) → (continued t o n more).state ≡ t
unfolding continued
last_step_lem t Said.GoesOn n more h = h t
last_step_lem t (Said.Ended e) n more h = refl
last_step_lem t Said.Stuck n more h = refl

-- one more step behind those of a run
run-linked : (P : Program) (j n : ℕ) (s : State) → (run_from P j s n).answer ≡ Answer.Steps → (run_from P (suc j) s n).state ≡ (step_of P (run_from P j s n).state).state
unfolding run_from_to continued
run-linked P zero n s h = last_step_lem (step_of P s).state (step_of P s).said n (λ t. run_from P zero t (n + 1)) (λ u. refl)
run-linked P (suc j) n s h = go (step_of P s).state (step_of P s).said (λ t. run-linked P j (n + 1) t) h
  where
    go : (t : State) (o : Said) → ((u : State) → (run_from P j u (n + 1)).answer ≡ Answer.Steps → (run_from P (suc j) u (n + 1)).state ≡ (step_of P (run_from P j u (n + 1)).state).state)
        → (continued t o n (λ u. run_from P j u (n + 1))).answer ≡ Answer.Steps → (continued t o n (λ u. run_from P (suc j) u (n + 1))).state ≡ (step_of P (continued t o n (λ u. run_from P j u (n + 1))).state).state
    go t Said.GoesOn ih e = ih t e
    go t (Said.Ended x) ih e = absurd (not-ended x e)
    go t Said.Stuck ih e = absurd (not_stuck e)

-- ---- the laws

module _ (P : Program) (s : State) (buffer : List ℤ) where
  -- a budget that is not refused
  in-where : (st : Status) (m : ℕ) (b : State) → Memᴰ b (tried_in P s m st) ↔ Stops (λ j. budget_in P s j st) m b
  unfolding tried_in budget_in_to
  in-where Status.Running m b = (tried-stops P m 0 s b, λ t. rw (sym t.3) (stops-tried P m t.0 0 s t.1 t.2))
  in-where (Status.Ended e) m b = (λ l. absurd (Memᴰ.not-nil l), λ t. absurd (not-ended e t.2))

  -- THE LAW: where a budget tries its steps
  pub tried-where : (m : ℕ) (b : State) → TriedWhere P s m buffer b
  unfolding tried_by budget_of_to
  tried-where m b = go (long_enough buffer) refl
    where
      go : (l : Bool) → long_enough buffer ≡ l → TriedWhere P s m buffer b
      go true e = rw (e, tried_by, budget_of_to) (in-where s.status m b)
      go false e = rw (e, tried_by, budget_of_to) (λ l. absurd (Memᴰ.not-nil l), λ t. absurd (not-refused 13 0 t.2))

  -- one more step of a budget that is not refused
  in-linked : (st : Status) (j : ℕ) → (budget_in P s j st).answer ≡ Answer.Steps → (budget_in P s (suc j) st).state ≡ (step_of P (budget_in P s j st).state).state
  unfolding budget_in_to
  in-linked Status.Running j h = run-linked P j 0 s h
  in-linked (Status.Ended e) j h = absurd (not-ended e h)

  -- THE LAW: how they follow one another
  pub tried-linked : (j : ℕ) → Linked P s j buffer
  unfolding budget_of_to
  tried-linked j = go (long_enough buffer) refl
    where
      go : (l : Bool) → long_enough buffer ≡ l → Linked P s j buffer
      go true e = rw (e, budget_of_to) (in-linked s.status j)
      go false e = rw (e, budget_of_to) (λ h. absurd (not-refused 13 0 h))

  -- how many they are, on a run that goes on
  in_count : (st : Status) (n : ℕ) → st ≡ Status.Running → length (tried_in P s n st) ≡ (budget_in P s n st).steps + untaken (budget_in P s n st).answer
  unfolding tried_in budget_in_to
  in_count Status.Running n run = omega (arith, tried-length P n 0 s)
  in_count (Status.Ended e) n run = let z : ◌≡◌ {A = ℕ} 0 1 = cc in absurd (omega arith)

  -- THE LAW: how many they are
  pub tried-count : (n : ℕ) → s.status ≡ Status.Running → TriedCount P s n buffer
  unfolding tried_by budget_of_to untaken
  tried-count n run = go (long_enough buffer) refl
    where
      go : (l : Bool) → long_enough buffer ≡ l → TriedCount P s n buffer
      go true e = rw (e, tried_by, budget_of_to) (in_count s.status n run)
      go false e = rw (e, tried_by, budget_of_to) refl

-- THE LAW: the history of a budget
pub budget-history : BudgetHistory
budget-history = record { tried = λ P s m buffer b. tried-where P s buffer m b; linked = λ P s j buffer. tried-linked P s buffer j; count = λ P s n buffer run. tried-count P s buffer n run }
