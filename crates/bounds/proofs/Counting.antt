-- Over every list of steps and budgets: no more steps are taken than are paid for.
use Rattle.std.specs.Prelude.{Err, Ok}
use mathlib.Core.Path.{◌≡◌, refl, sym, ap, ◌∙◌, subst}
use mathlib.Core.List.{List, [], ◌∷◌}
use mathlib.Core.Bool.{Bool, true, false, not, false≢true}
use Prim.Native.Nat.{ℕ, zero, suc, ◌+◌, ◌≤◌}
use native.Mathlib.Omega.{arith}
use lib.IntN.{ℤ}
use Rattle.program.specs.Program.{Version, Program}
use Rattle.machine.specs.Try.{Try, got, stuck, stop}
use Rattle.machine.specs.States.{with_end}
use Rattle.machine.specs.Steps.{advance}
use Rattle.machine.specs.Runs.{saying, settled, step_in, step_in_to, step_of, step_of_to, last_step, continued, run_from, run_from_to, budget_in, budget_in_to, long_enough, budget_of, budget_of_to}
use Rattle.layout.specs.Tests.{all}
use Rattle.layout.proofs.Bools.{and_both}
use Rattle.machine.specs.Begin.{program_of}
use Rattle.machine.specs.Changes.{change_of}
use Rattle.machine.specs.Events.{Run, Event, single, budget, change, became, in_force, handle, handle_to, replies_to}
use Rattle.machine.specs.declared.End.{End}
use Rattle.machine.specs.declared.Ran.{Ran}
use Rattle.machine.specs.declared.Said.{Said}
use Rattle.machine.specs.declared.State.{State}
use Rattle.machine.specs.declared.Status.{Status}
use Rattle.runs.proofs.Keeps.{Gives}
use Rattle.soundness.proofs.Invariant.{Sure, Inv}
use Rattle.soundness.proofs.Progress.{Good}
use Rattle.soundness.proofs.Ends.{not-running}
use Rattle.soundness.proofs.Closing.{end-keeps}
use Rattle.soundness.proofs.Safety.{step-safe}
use Rattle.bounds.specs.Bounds.{steps_at}
use Rattle.bounds.specs.Claim.{taken, taken_by, taken_in, is_taken, unchanged}
use Rattle.bounds.proofs.Potential.{Paid}
use Rattle.bounds.proofs.Priced.{Priced}
use Rattle.bounds.proofs.Running.{After, advance-falls, paid-one}
use Rattle.machine.specs.Denials.{Grant}

-- an end adds one step at most
last_one : (e : End) → last_step e ≤ 1
unfolding last_step
last_one (End.Integer z) = omega arith
last_one (End.Vector n) = omega arith
last_one End.Undef = omega arith
last_one End.Deep = omega arith
last_one End.Vectors = omega arith
last_one End.Promises = omega arith

-- what goes on is running
saying-on : (st : Status) → saying st ≡ Said.GoesOn → st ≡ Status.Running
unfolding saying
saying-on Status.Running e = refl
saying-on (Status.Ended x) e = let z : ◌≡◌ {A = ℕ} 0 1 = cc in absurd (omega arith)

settled_on : (s : State) (t : Try State) → (settled s t).said ≡ Said.GoesOn → (settled s t).state.status ≡ Status.Running
unfolding settled
settled_on s (got t) e = saying-on t.status e
settled_on s stuck e = let z : ◌≡◌ {A = ℕ} 0 1 = cc in absurd (omega arith)
settled_on s (stop x) e = let z : ◌≡◌ {A = ℕ} 0 1 = cc in absurd (omega arith)

step-on : (P : Program) (s : State) → (step_of P s).said ≡ Said.GoesOn → (step_of P s).state.status ≡ Status.Running
unfolding step_of_to step_in_to
step-on P s = go s.status
  where
    go : (st : Status) → (step_in P s st).said ≡ Said.GoesOn → (step_in P s st).state.status ≡ Status.Running
    go Status.Running e = settled_on s (advance P s) e
    go (Status.Ended x) e = let z : ◌≡◌ {A = ℕ} 0 1 = cc in absurd (omega arith)

module _ (P : Program) (sure : Sure P) (bound : Version → ℕ) (G : Version → Bool) (agree : Priced P bound G) where
  -- the invariant, and m steps paid for while the run goes on
  pub record Budgeted (s : State) (m : ℕ) : Type 0 where
    pub inv : Inv P s
    pub paid : s.status ≡ Status.Running → Paid P (steps_at P bound) G s m

  -- n steps were taken, and the state t is left
  pub record Spent (m n : ℕ) (t : State) : Type 0 where
    pub rest : ℕ
    pub within : n + rest ≤ m
    pub left : Budgeted t rest

  -- an ended run needs nothing
  ended : (s : State) (e : End) → Inv P s → s.status ≡ Status.Ended e → Budgeted s 0
  ended s e inv h = record { inv = inv; paid = λ r. absurd (not-running e (sym h ∙ r)) }

  -- ---- the single step

  module _ (s : State) (m : ℕ) (b : Budgeted s m) (run : s.status ≡ Status.Running) where
    got-spent : (t : State) → Inv P t → After P sure bound G agree s m t → (st : Status) → t.status ≡ st → Spent m (taken Status.Running (saying st)) t
    unfolding taken saying
    got-spent t i f Status.Running e = let r = f e in record { rest = r.rest; within = omega (arith, r.falls); left = record { inv = i; paid = λ _. r.paid } }
    got-spent t i f (Status.Ended x) e = record { rest = 0; within = omega (arith, last_one x, paid-one P sure bound G agree s b.inv run m (b.paid run)); left = ended t x i e }

    settled-spent : (t : Try State) → Good (Inv P) t → Gives (After P sure bound G agree s m) t → Spent m (taken Status.Running (settled s t).said) (settled s t).state
    unfolding settled Good Gives taken with_end
    settled-spent (got t) i f = got-spent t i f t.status refl
    settled-spent stuck i f = absurd i
    settled-spent (stop x) i f = record { rest = 0; within = omega (arith, last_one x, paid-one P sure bound G agree s b.inv run m (b.paid run)); left = ended (with_end s s.result x) x (end-keeps P s s.result x b.inv) refl }

  pub step-spent : (s : State) (m : ℕ) → Budgeted s m → Spent m (taken s.status (step_of P s).said) (step_of P s).state
  unfolding step_of_to step_in_to taken
  step-spent s m b = go s.status refl
    where
      go : (st : Status) → s.status ≡ st → Spent m (taken st (step_in P s st).said) (step_in P s st).state
      go Status.Running e = settled-spent s m b e (advance P s) (step-safe P sure s b.inv e) (advance-falls P sure bound G agree s b.inv e m (b.paid e))
      go (Status.Ended x) e = record { rest = m; within = omega arith; left = b }

  -- ---- the budget

  continued-spent : (t : State) (x : Said) (m n : ℕ) (more : State → Ran) → Spent m (taken Status.Running x) t → ((k : ℕ) → x ≡ Said.GoesOn → Budgeted t k → Spent (n + 1 + k) (more t).steps (more t).state) → Spent (n + m) (continued t x n more).steps (continued t x n more).state
  unfolding continued taken
  continued-spent t Said.GoesOn m n more p ih = let r = ih p.rest refl p.left in record { rest = r.rest; within = omega (arith, r.within, p.within); left = r.left }
  continued-spent t (Said.Ended e) m n more p ih = record { rest = p.rest; within = omega (arith, p.within); left = p.left }
  continued-spent t Said.Stuck m n more p ih = record { rest = p.rest; within = omega (arith, p.within); left = p.left }

  running-spent : (s : State) (m : ℕ) → Budgeted s m → s.status ≡ Status.Running → Spent m (taken Status.Running (step_of P s).said) (step_of P s).state
  running-spent s m b run = subst (λ (st : Status). Spent m (taken st (step_of P s).said) (step_of P s).state) run (step-spent s m b)

  run-spent : (j : ℕ) (s : State) (n m : ℕ) → Budgeted s m → s.status ≡ Status.Running → Spent (n + m) (run_from P j s n).steps (run_from P j s n).state
  unfolding run_from_to
  run-spent zero s n m b run = record { rest = m; within = omega arith; left = b }
  run-spent (suc j) s n m b run = continued-spent (step_of P s).state (step_of P s).said m n (λ t. run_from P j t (n + 1)) (running-spent s m b run) (λ k e c. run-spent j (step_of P s).state (n + 1) k c (step-on P s e))

  in-spent : (s : State) (n m : ℕ) → Budgeted s m → (st : Status) → s.status ≡ st → Spent m (budget_in P s n st).steps (budget_in P s n st).state
  unfolding budget_in_to
  in-spent s n m b Status.Running e = let r = run-spent n s 0 m b e in record { rest = r.rest; within = omega (arith, r.within); left = r.left }
  in-spent s n m b (Status.Ended x) e = record { rest = m; within = omega arith; left = b }

  budget-spent : (s : State) (n : ℕ) (buffer : List ℤ) (m : ℕ) → Budgeted s m → Spent m (budget_of P s n buffer).steps (budget_of P s n buffer).state
  unfolding budget_of_to
  budget-spent s n buffer m b = go (long_enough buffer) refl
    where
      go : (t : Bool) → long_enough buffer ≡ t → Spent m (budget_of P s n buffer).steps (budget_of P s n buffer).state
      go true e = rw (e, budget_of_to) (in-spent s n m b s.status refl)
      go false e = rw (e, budget_of_to) (record { rest = m; within = omega arith; left = b })

-- ---- lists of events under one image

-- one that is not changed goes on under its image
not_taken : (c : Grant) (image new : List ℕ) → not (is_taken (became c)) ≡ true → in_force c image new ≡ image
unfolding is_taken in_force
not_taken (Ok _) image new h = absurd (false≢true h)
not_taken (Err why) image new h = refl

module _ (image : List ℕ) (sure : Sure (program_of image)) (bound : Version → ℕ) (G : Version → Bool) (agree : Priced (program_of image) bound G) where
  abbrev run_in : State → Run
  run_in s = record { image = image; state = s }

  abbrev Can : State → ℕ → Type 0
  Can = Budgeted (program_of image) sure bound G agree

  abbrev Spends : ℕ → ℕ → State → Type 0
  Spends = Spent (program_of image) sure bound G agree

  handle-spent : (e : Event) (s : State) (m : ℕ) → Can s m → not (is_taken (handle e (run_in s)).reply) ≡ true → Spends m (taken_by e (run_in s)) (handle e (run_in s)).run.state × ((handle e (run_in s)).run.image ≡ image)
  unfolding taken_by handle_to
  handle-spent single s m b h = (step-spent (program_of image) sure bound G agree s m b, refl)
  handle-spent (budget n buffer) s m b h = (budget-spent (program_of image) sure bound G agree s n buffer m b, refl)
  handle-spent (change new) s m b h = (record { rest = m; within = omega arith; left = b }, not_taken (change_of image new s) image new h)

  -- THE LAW: of every list of events
  pub at-most : (es : List Event) (s : State) (m : ℕ) → Can s m → unchanged es (run_in s) ≡ true → taken_in es (run_in s) ≤ m
  unfolding taken_in unchanged replies_to all
  at-most [] s m b h = omega arith
  at-most (e ∷ es) s m b h =
      let a = and_both _ _ h in
      let r = handle-spent e s m b a.0 in
      omega (arith, r.0.within, go (handle e (run_in s)).run r.1 a.1 r.0.rest r.0.left (λ t n c k. at-most es t n c k))
    where
      go : (x : Run) → x.image ≡ image → unchanged es x ≡ true → (n : ℕ) → Can x.state n → ((t : State) (k : ℕ) → Can t k → unchanged es (run_in t) ≡ true → taken_in es (run_in t) ≤ k) → taken_in es x ≤ n
      go x e u n c ih = let q : x ≡ run_in x.state = ap (λ (i : List ℕ). record { image = i; state = x.state }) e in rw q (ih x.state n c (rw q at u))
