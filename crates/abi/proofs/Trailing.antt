-- What a step, a budget, a change and a step back come to in the caller's state and trail.
use mathlib.Core.Path.{◌≡◌, refl, sym, ap, ◌∙◌}
use mathlib.Core.List.{List}
use Prim.Native.Nat.{ℕ, ◌<◌, ◌≤◌}
use lib.IntN.{ℤ}
use lib.ListN.{length}
use Rattle.program.specs.Program.{Program}
use Rattle.machine.specs.Runs.{budget_of, written}
use Rattle.machine.specs.States.{over}
use Rattle.machine.specs.Trails.{budget_on, change_on, further, step_on}
use Rattle.machine.specs.declared.Answer.{Answer}
use Rattle.machine.specs.declared.Behind.{Behind}
use Rattle.machine.specs.declared.Ran.{Ran}
use Rattle.machine.specs.declared.Returned.{Returned}
use Rattle.machine.specs.declared.State.{State}
use Rattle.machine.specs.declared.Stepped.{Stepped}
use Rattle.machine.specs.declared.Trail.{Trail}
use Rattle.store.specs.Store.{state_in}
use Rattle.running.specs.Budgets.{Resumes, Steps as Stepping, answer_of, outcome_in, said_of}
use Rattle.running.specs.declared.Counted.{Counted}
use Rattle.running.specs.declared.Pause.{Pause}
use Rattle.trails.specs.Arrays.{Adds, Renews, Returns, behind_in, steps_from, trail_in}
use Rattle.trails.proofs.Counting.{counts_zero}
use Rattle.abi.specs.Answers.{answer_numbers, grant_numbers, said_numbers}
use Rattle.abi.specs.Held.{stored}
use Rattle.abi.specs.Trails.{AnswersOn, BacksOn, ChangesOn, StepsOn, kept}
use Rattle.abi.specs.declared.answers.FirAnswer.{FirAnswer}
use Rattle.abi.specs.declared.answers.FirEntry.{FirEntry}
use Rattle.abi.specs.declared.answers.FirSaid.{FirSaid}
use Rattle.abi.proofs.Pausing.{budget-refused, budget-taken, refuses, same_memory, steps-with, takes}
use Rattle.machine.specs.Denials.{Grant}

-- the same start, with what lies behind and the state by equations
on : (s : State) {x y : Behind} {t u : State} → x ≡ y → t ≡ u → ◌≡◌ {A = Trail} (record { start = s; behind = x; state = t }) (record { start = s; behind = y; state = u })
on s e f = λ i. record { start = s; behind = e i; state = f i }

-- the same numbers are the same memory
same_count : (b₀ : List ℕ) (n₀ : List ℤ) {s p s' p' : ℕ} → (s' ≡ s) × (p' ≡ p) → kept b₀ n₀ s' p' ≡ kept b₀ n₀ s p
same_count b₀ n₀ h = λ i. kept b₀ n₀ (h.0 i) (h.1 i)

module _ (P : Program) (b : List ℕ) (n : List ℤ) (s p : ℕ) where
  -- ---- a single step, and a budget

  module _ (b' : List ℕ) (n' : List ℤ) (s' p' : ℕ) where
    pub steps_on : (x : Pause) {r : FirSaid} → Stepping x P b n b' n' × Adds s p (steps_from P b n) s' p' → r ≡ said_numbers (said_of x (state_in b' n').status) → (b₀ : List ℕ) (n₀ : List ℤ)
        → StepsOn r P (stored b n) (kept b₀ n₀ s p) (stored b' n') (kept b₀ n₀ s' p')
    unfolding step_on
    steps_on x h e b₀ n₀ = record {
      step = steps-with P b n b' n' x h.0 e;
      trail = on (state_in b₀ n₀) h.1.behind (ap (λ (t : Stepped). t.state) (sym h.0.stepped));
      start = (refl, refl);
      none = λ z. same_count b₀ n₀ (h.1.none z);
    }

    pub budget-on : (m : ℕ) (buffer last : List ℤ) (r : Counted) {a : FirAnswer} → 16 ≤ length buffer → Resumes r P b n b' n' m × Adds s p r.steps s' p'
        → (a ≡ answer_numbers (answer_of r.pause (state_in b' n').status) r.steps) × (last ≡ over (written (state_in b' n').result (answer_of r.pause (state_in b' n').status)) buffer) → (b₀ : List ℕ) (n₀ : List ℤ)
        → AnswersOn a P m (stored b n) (kept b₀ n₀ s p) (stored b' n') (kept b₀ n₀ s' p') buffer last
    unfolding budget_on
    budget-on m buffer last r l h f b₀ n₀ =
        let g = budget-taken P b n b' n' m buffer r last l h.0 f in
        let e : outcome_in r b' n' ≡ budget_of P (state_in b n) m buffer = sym h.0.ran ∙ takes P b n b' n' m buffer l in
        let k : r.steps ≡ (budget_of P (state_in b n) m buffer).steps = ap (λ (x : Ran). x.steps) e in
        record {
          budget = g.0;
          rests = g.1;
          trail = on (state_in b₀ n₀) (h.1.behind ∙ ap (further (behind_in s p)) k) (ap (λ (x : Ran). x.state) e);
          start = (refl, refl);
          none = λ z. same_count b₀ n₀ (h.1.none (k ∙ z));
        }

  -- the buffer is too short
  pub budget-short : (m : ℕ) (buffer : List ℤ) {a : FirAnswer} → length buffer < 16 → a ≡ answer_numbers (Answer.Refused 13 0) 0 → (b₀ : List ℕ) (n₀ : List ℤ)
      → AnswersOn a P m (stored b n) (kept b₀ n₀ s p) (stored b n) (kept b₀ n₀ s p) buffer buffer
  unfolding budget_on
  budget-short m buffer l f b₀ n₀ =
      let g = budget-refused P b n m buffer l f in
      let e = refuses P b n b n m buffer l in
      record {
        budget = g.0;
        rests = g.1;
        trail = on (state_in b₀ n₀) (counts_zero s p ∙ ap (λ (x : Ran). further (behind_in s p) x.steps) e) (ap (λ (x : Ran). x.state) e);
        start = (refl, refl);
        none = λ _. refl;
      }

  -- ---- a step back

  pub backs-on : (b₀ : List ℕ) (n₀ : List ℤ) (x : Grant) (s' : ℕ) (b' : List ℕ) (n' : List ℤ) {r : FirEntry} → Returns x P b₀ n₀ s p b n s' b' n' → r ≡ grant_numbers x
      → BacksOn r P (stored b n) (kept b₀ n₀ s p) (stored b' n') (kept b₀ n₀ s' p)
  backs-on b₀ n₀ x s' b' n' h e =
      let k = ap (λ (y : Returned). y.back) h.back in
      record {
        numbers = e ∙ ap grant_numbers (sym k);
        trail = ap (λ (y : Returned). y.trail) (sym h.back);
        start = (refl, refl);
        refused = λ q o g. let w = h.refused q o (sym k ∙ g) in (same_memory (w.1, w.2), same_count b₀ n₀ (w.0, refl));
      }

-- ---- a change of the image

pub changes-on : (old new b : List ℕ) (n : List ℤ) (b₀ : List ℕ) (n₀ : List ℤ) (s p : ℕ) (b₀' : List ℕ) (n₀' : List ℤ) (s' p' : ℕ) (x : Grant) {r : FirEntry}
    → Renews x old new b n b₀ n₀ s p b₀' n₀' s' p' → r ≡ grant_numbers x → ChangesOn r old new (stored b n) (kept b₀ n₀ s p) (kept b₀' n₀' s' p')
changes-on old new b n b₀ n₀ s p b₀' n₀' s' p' x h e = record {
  numbers = e ∙ ap grant_numbers h.changed;
  trail = h.trail ∙ ap (change_on (trail_in b₀ n₀ s p b n)) h.changed;
  taken = λ g. h.taken (h.changed ∙ g);
  refused = λ q o g. let w = h.refused q o (h.changed ∙ g) in λ i. kept (w.0 i) (w.1 i) (w.2 i) (w.3 i);
}
