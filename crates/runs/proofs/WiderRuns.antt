-- A run in a wider range is that in a narrower one, but where the narrower one ends in UNDEF; offsets do not matter.
use mathlib.Core.Path.{◌≡◌, refl, sym, ap, ◌∙◌}
use mathlib.Core.Logic.{◌⊎◌, inl, inr}
use mathlib.Core.List.{List, [], ◌∷◌}
use mathlib.Core.Bool.{Bool, true, false}
use Prim.Native.Nat.{ℕ, zero, suc, ◌+◌, ◌≤◌}
use lib.IntN.{ℤ}
use Rattle.program.specs.Program.{Program}
use Rattle.machine.specs.Try.{Try}
use Rattle.machine.specs.Steps.{advance_to}
use Rattle.machine.specs.Runs.{settled, step_in_to, step_of_to, continued, run_from_to, budget_in_to, long_enough, budget_of_to, buffer_of}
use Rattle.machine.specs.Events.{Run, Event, Handled, Reply, single, budget, change, said, gave, program_in, in_state, handle_to, after_to, replies_to}
use Rattle.machine.specs.declared.Answer.{Answer}
use Rattle.machine.specs.declared.End.{End}
use Rattle.machine.specs.declared.Ran.{Ran}
use Rattle.machine.specs.declared.Said.{Said}
use Rattle.machine.specs.declared.State.{State}
use Rattle.machine.specs.declared.Status.{Status}
use Rattle.machine.specs.declared.Stepped.{Stepped}
use Rattle.runs.specs.Alike.{AllAlike}
use Rattle.runs.specs.Wider.{WiderStep, WiderBudget, Defined, AllDefined, WiderEvents}
use Rattle.runs.proofs.Alike.{alike_self, advance-alike}
use Rattle.runs.proofs.Wider.{OrUndef, advance-wider}

module _ (R S : ℕ) (wider : R ≤ S) (P Q : Program) (A : AllAlike P Q) where
  -- what a step comes to
  pub advance-same : (s : State) → OrUndef (advance_to R P s) (advance_to S Q s)
  unfolding OrUndef
  advance-same s = go (advance-wider R S wider P s)
    where
      go : OrUndef (advance_to R P s) (advance_to S P s) → OrUndef (advance_to R P s) (advance_to S Q s)
      go (inl e) = inl (e ∙ advance-alike S P Q A s)
      go (inr e) = inr e

  settled_same : (s : State) (t u : Try State) → OrUndef t u → (settled s t ≡ settled s u) ⊎ ((settled s t).said ≡ Said.Ended End.Undef)
  unfolding OrUndef settled
  settled_same s t u (inl e) = inl (ap (settled s) e)
  settled_same s t u (inr e) = inr (rw e refl)

  -- a single step
  pub step_same : (s : State) → (step_of_to R P s ≡ step_of_to S Q s) ⊎ ((step_of_to R P s).said ≡ Said.Ended End.Undef)
  unfolding step_of_to step_in_to
  step_same s = go s.status
    where
      go : (st : Status) → (step_in_to R P s st ≡ step_in_to S Q s st) ⊎ ((step_in_to R P s st).said ≡ Said.Ended End.Undef)
      go Status.Running = settled_same s _ _ (advance-same s)
      go (Status.Ended e) = inl refl

  -- a run that goes on
  pub run-same : (m : ℕ) (s : State) (n : ℕ) → (run_from_to R P m s n ≡ run_from_to S Q m s n) ⊎ ((run_from_to R P m s n).answer ≡ Answer.Ended End.Undef)
  unfolding run_from_to continued
  run-same zero s n = inl refl
  run-same (suc m) s n = go (step_same s) (λ t. run-same m t (n + 1))
    where
      Same : Ran → Ran → Type 0
      Same r q = (r ≡ q) ⊎ (r.answer ≡ Answer.Ended End.Undef)

      goes : (t : State) (d : Said) → ((t : State) → (run_from_to R P m t (n + 1) ≡ run_from_to S Q m t (n + 1)) ⊎ ((run_from_to R P m t (n + 1)).answer ≡ Answer.Ended End.Undef))
          → (continued t d n (λ t. run_from_to R P m t (n + 1)) ≡ continued t d n (λ t. run_from_to S Q m t (n + 1))) ⊎ ((continued t d n (λ t. run_from_to R P m t (n + 1))).answer ≡ Answer.Ended End.Undef)
      goes t Said.GoesOn ih = ih t
      goes t (Said.Ended e) ih = inl refl
      goes t Said.Stuck ih = inl refl

      go : (step_of_to R P s ≡ step_of_to S Q s) ⊎ ((step_of_to R P s).said ≡ Said.Ended End.Undef)
          → ((t : State) → (run_from_to R P m t (n + 1) ≡ run_from_to S Q m t (n + 1)) ⊎ ((run_from_to R P m t (n + 1)).answer ≡ Answer.Ended End.Undef))
          → (run_from_to R P (suc m) s n ≡ run_from_to S Q (suc m) s n) ⊎ ((run_from_to R P (suc m) s n).answer ≡ Answer.Ended End.Undef)
      go (inl e) ih = rw (sym e) (goes (step_of_to R P s).state (step_of_to R P s).said ih)
      go (inr e) ih = inr (rw e refl)

  -- a budget
  pub budget-same : (s : State) (n : ℕ) (buffer : List ℤ) → (budget_of_to R P s n buffer ≡ budget_of_to S Q s n buffer) ⊎ ((budget_of_to R P s n buffer).answer ≡ Answer.Ended End.Undef)
  unfolding budget_of_to budget_in_to
  budget-same s n buffer = long (long_enough buffer) (go s.status)
    where
      go : (st : Status) → (budget_in_to R P s n st ≡ budget_in_to S Q s n st) ⊎ ((budget_in_to R P s n st).answer ≡ Answer.Ended End.Undef)
      go Status.Running = run-same n s 0
      go (Status.Ended e) = inl refl

      given : Bool → Ran → Ran
      given b r = elim b [ true ↦ r | false ↦ record { state = s; answer = Answer.Refused 13 0; steps = 0 } ]

      long : (b : Bool) {r q : Ran} → (r ≡ q) ⊎ (r.answer ≡ Answer.Ended End.Undef) → (given b r ≡ given b q) ⊎ ((given b r).answer ≡ Answer.Ended End.Undef)
      long true h = h
      long false h = inl refl

-- THE LAW: one step
pub wider-step : WiderStep
unfolding WiderStep
wider-step R S h P Q A s = step_same R S h P Q A s

-- THE LAW: a budget that does not answer UNDEF
pub wider-budget : WiderBudget
unfolding WiderBudget
wider-budget R S h P Q A s n buffer u = go (budget-same R S h P Q A s n buffer)
  where
    go : (budget_of_to R P s n buffer ≡ budget_of_to S Q s n buffer) ⊎ ((budget_of_to R P s n buffer).answer ≡ Answer.Ended End.Undef) → budget_of_to S Q s n buffer ≡ budget_of_to R P s n buffer
    go (inl e) = sym e
    go (inr e) = absurd (u e)

-- ---- events, each under the image in force

module _ (R S : ℕ) (wider : R ≤ S) where
  handle-same : (e : Event) (r : Run) → Defined (handle_to R e r).reply → handle_to S e r ≡ handle_to R e r
  unfolding handle_to Defined WiderBudget
  handle-same single r u = go (step_same R S wider (program_in r) (program_in r) (alike_self (program_in r)) r.state)
    where
      go : (step_of_to R (program_in r) r.state ≡ step_of_to S (program_in r) r.state) ⊎ ((step_of_to R (program_in r) r.state).said ≡ Said.Ended End.Undef) → handle_to S single r ≡ handle_to R single r
      go (inl e) = ap (λ (x : Stepped). record { run = in_state r x.state; reply = said x.said }) (sym e)
      go (inr e) = absurd (u e)
  handle-same (budget n buffer) r u =
      ap (λ (x : Ran). record { run = in_state r x.state; reply = gave x.answer x.steps (buffer_of x buffer) }) (wider-budget R S wider (program_in r) (program_in r) (alike_self (program_in r)) r.state n buffer u)
  handle-same (change new) r u = refl

  events-same : (es : List Event) (r : Run) → AllDefined (replies_to R es r) → (replies_to S es r ≡ replies_to R es r) × (after_to S es r ≡ after_to R es r)
  unfolding replies_to after_to AllDefined
  events-same [] r u = (refl, refl)
  events-same (e ∷ es) r u =
      let h = handle-same e r u.0 in
      let t = events-same es (handle_to R e r).run u.1 in
      (ap (λ (x : Handled). x.reply ∷ replies_to S es x.run) h ∙ ap (λ (rs : List Reply). (handle_to R e r).reply ∷ rs) t.0, ap (λ (x : Handled). after_to S es x.run) h ∙ t.1)

-- THE LAW: a list of events
pub wider-events : WiderEvents
unfolding WiderEvents
wider-events R S wider es r u = events-same R S wider es r u
