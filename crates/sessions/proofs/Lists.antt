-- A list of calls of the C functions on one state is the list of its events: by induction, one call at a time.
use Rattle.std.specs.Prelude.{Err, Ok}
use mathlib.Core.Path.{◌≡◌, refl, sym, ap, ap₂, ◌∙◌, subst}
use mathlib.Core.List.{List, [], ◌∷◌, ◌++◌, map}
use mathlib.Core.Bool.{Bool, true, false, cond}
use Prim.Native.Nat.{ℕ, zero, suc, ◌+◌}
use native.Mathlib.Omega.{arith}
use lib.Dec.{eqb}
use lib.IntN.{ℤ}
use Rattle.program.specs.Program.{Program}
use Rattle.machine.specs.Begin.{program_of}
use Rattle.machine.specs.Changes.{change_of}
use Rattle.machine.specs.Events.{Run, Event, in_force, handle, handle_to, after, after_to, history, replies, replies_to}
use Rattle.machine.specs.Runs.{budget_in_to, budget_of, budget_of_to, continued, long_enough, run_from, run_from_to, step_of}
use Rattle.machine.specs.Values.{RANGE}
use Rattle.machine.specs.declared.Answer.{Answer}
use Rattle.machine.specs.declared.Ran.{Ran}
use Rattle.machine.specs.declared.Said.{Said}
use Rattle.machine.specs.declared.State.{State}
use Rattle.machine.specs.declared.Status.{Status}
use Rattle.machine.specs.declared.Stepped.{Stepped}
use Rattle.loaded.proofs.Runs.{loaded-budget, loaded-step}
use Rattle.soundness.specs.Claim.{Safe, begun, Demand3}
use Rattle.soundness.proofs.Demand.{demand3}
use Rattle.abi.specs.Answers.{grant_numbers, said_numbers}
use Rattle.abi.specs.Exits.{Answers, Left}
use Rattle.abi.specs.Held.{held}
use Rattle.abi.specs.declared.answers.FirEntry.{FirEntry}
use Rattle.abi.specs.declared.state.FirState.{FirState}
use Rattle.sessions.specs.Lent.{Starts, run_in}
use Rattle.sessions.specs.Lists.{Call, step, steps, update, Meets, lent_after, Session, empty, next, event_of, events_of, by_steps, by_budget, by_change, told_by, in_numbers, CallsAreEvents, Demand3InC}
use Rattle.sessions.proofs.Numbers.{Changes, change-numbered}
use Rattle.sessions.proofs.Lent.{filled, started}
use Rattle.machine.specs.Denials.{Grant}

-- ---- a change: what its answer in numbers says is what is in force

pub in-force : (old new : List ℕ) (c : Grant) → Changes c → cond (eqb (grant_numbers c).question 0) new old ≡ in_force c old new
unfolding Changes grant_numbers in_force
in-force old new (Ok _) h = refl
in-force old new (Err why) h = rw h refl

-- ---- a budget: one that is refused leaves its state

-- what is left, where a refusal gives the state before
pub left : (a : Answer) (s : State) (S T : FirState) → ((q p : ℕ) → a ≡ Answer.Refused q p → s ≡ held S) → Left a s S T → held T ≡ s
unfolding Left
left (Answer.Refused q p) s S T h l = ap held l ∙ sym (h q p refl)
left Answer.Steps s S T h l = l
left (Answer.Ended e) s S T h l = l
left Answer.Stuck s S T h l = l

module _ (P : Program) where
  -- a run that goes on is not refused
  not-refused : (m : ℕ) (s : State) (n q p : ℕ) → (run_from P m s n).answer ≡ Answer.Refused q p → ⊥
  unfolding run_from_to continued
  not-refused zero s n q p e = let z : ◌≡◌ {A = ℕ} 0 1 = cc in omega arith
  not-refused (suc m) s n q p e = go (step_of P s).said (not-refused m (step_of P s).state (n + 1) q p) e
    where
      go : (d : Said) → ((run_from P m (step_of P s).state (n + 1)).answer ≡ Answer.Refused q p → ⊥)
          → (continued (step_of P s).state d n (λ t. run_from P m t (n + 1))).answer ≡ Answer.Refused q p → ⊥
      go Said.GoesOn ih h = ih h
      go (Said.Ended x) ih h = let z : ◌≡◌ {A = ℕ} 0 1 = cc in omega arith
      go Said.Stuck ih h = let z : ◌≡◌ {A = ℕ} 0 1 = cc in omega arith

  in-not-refused : (s : State) (n : ℕ) (st : Status) (q p : ℕ) → (budget_in_to RANGE P s n st).answer ≡ Answer.Refused q p → ⊥
  unfolding budget_in_to
  in-not-refused s n Status.Running q p e = not-refused n s 0 q p e
  in-not-refused s n (Status.Ended x) q p e = let z : ◌≡◌ {A = ℕ} 0 1 = cc in omega arith

  refused-stays : (s : State) (n : ℕ) (buffer : List ℤ) (q p : ℕ) → (budget_of P s n buffer).answer ≡ Answer.Refused q p → (budget_of P s n buffer).state ≡ s
  unfolding budget_of_to
  refused-stays s n buffer q p e = go (long_enough buffer) refl e
    where
      go : (b : Bool) → long_enough buffer ≡ b → (budget_of P s n buffer).answer ≡ Answer.Refused q p → (budget_of P s n buffer).state ≡ s
      go true l h = absurd (in-not-refused s n s.status q p (rw (l, budget_of_to) at h))
      go false l h = rw (l, budget_of_to) refl

-- ---- one call

-- it leaves the run that its event leaves, and tells its reply
record Does (image : List ℕ) (c : Call) (S T : FirState) : Type 0 where
  run : run_in (lent_after image c) T ≡ (handle (event_of c) (run_in image S)).run
  told : told_by c ≡ in_numbers (handle (event_of c) (run_in image S)).reply

does : (image : List ℕ) (c : Call) (S T : FirState) → Meets image c S T → Does image c S T
unfolding Meets lent_after event_of handle_to told_by in_numbers
does image (step table r) S T (t, h) =
    let k = filled image table t in
    let e = loaded-step image table k.count k.stands RANGE (held S) in
    record {
      run = ap (λ (s : State). record { image = image; state = s }) (h.state ∙ ap (λ (x : Stepped). x.state) e);
      told = ap by_steps (h.numbers ∙ ap (λ (x : Stepped). said_numbers x.said) e);
    }
does image (steps table n buffer last r) S T (t, h) =
    let k = filled image table t in
    let b = budget_of (program_of image) (held S) n buffer in
    let a : Answers r b S T buffer last = subst (λ (x : Ran). Answers r x S T buffer last) (loaded-budget image table k.count k.stands RANGE (held S) n buffer) h.0 in
    record {
      run = ap (λ (s : State). record { image = image; state = s }) (left b.answer b.state S T (λ q p. refused-stays (program_of image) (held S) n buffer q p) a.state);
      told = ap₂ by_budget a.numbers a.written;
    }
does image (update new r) S T (e, h) =
    let c = change_of image new (held S) in
    record {
      run = ap₂ (λ (i : List ℕ) (s : State). record { image = i; state = s }) (ap (λ (q : FirEntry). cond (eqb q.question 0) new image) e ∙ in-force image new c (change-numbered image new (held S))) (ap held h);
      told = ap by_change e;
    }

-- ---- lists

list_of : (image : List ℕ) (S : FirState) (cs : List Call) (last : List ℕ) (U : FirState) → Session image S cs last U
    → (run_in last U ≡ after (events_of cs) (run_in image S)) × (map told_by cs ≡ map in_numbers (replies (events_of cs) (run_in image S)))
unfolding after_to replies_to
list_of _ _ _ _ _ (empty image S) = (refl, refl)
list_of _ _ _ _ _ (next image S T c cs last U m more) =
    let d = does image c S T m in
    let i = list_of (lent_after image c) T cs last U more in
    (i.0 ∙ ap (after (events_of cs)) d.run, ap₂ ◌∷◌ d.told (i.1 ∙ ap (λ (r : Run). map in_numbers (replies (events_of cs) r)) d.run))

-- THE LAW: a list of calls is the list of its events
pub calls-are-events : CallsAreEvents
unfolding CallsAreEvents
calls-are-events = list_of

-- ---- behind a start

-- the events of one list, then of another
after-append : (es fs : List Event) (r : Run) → after (es ++ fs) r ≡ after fs (after es r)
unfolding after_to
after-append [] fs r = refl
after-append (e ∷ es) fs r = after-append es fs (handle e r).run

-- a start and a list of calls leave the run of the first events and the calls'
pub session-run : (image : List ℕ) (level f v : ℕ) (words buffer : List ℤ) (S : FirState) (first : List Event) → Starts image level f v words buffer S first
    → (cs : List Call) (end : List ℕ) (U : FirState) → Session image S cs end U → run_in end U ≡ after (first ++ events_of cs) (begun image level f v words buffer)
unfolding CallsAreEvents
session-run image level f v words buffer S first b cs end U h =
    (calls-are-events image S cs end U h).0 ∙ ap (after (events_of cs)) (started image level f v words buffer S first b).run ∙ sym (after-append first (events_of cs) (begun image level f v words buffer))

-- DEMAND 3 of the C functions
pub demand3-in-c : Demand3InC
unfolding Demand3InC Demand3
demand3-in-c image level f v words buffer S first b cs end U h =
    let es = first ++ events_of cs in
    subst (Safe (history es (begun image level f v words buffer))) (sym (session-run image level f v words buffer S first b cs end U h))
    (demand3 image level f v words buffer (started image level f v words buffer S first b).entry es)
