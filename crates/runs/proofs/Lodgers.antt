-- What every start, step, stop and change that is taken keeps holds of the run under a number of the pool, after every list, and wherever a step was tried, in a budget too.
use Rattle.std.specs.Prelude.{Err, Ok}
use mathlib.Core.Path.{◌≡◌, refl, sym, ap, ◌∙◌, subst}
use mathlib.Core.Logic.{◌⊎◌, inl, inr}
use mathlib.Core.List.Memᴰ
use mathlib.Core.List.{List, [], ◌∷◌, ◌++◌, map}
use mathlib.Core.Option.{Option, none, some}
use mathlib.Core.Bool.{Bool, true, false, cond, false≢true}
use Prim.Native.Nat.{ℕ, zero, suc, ◌+◌}
use native.Mathlib.Omega.{arith}
use lib.IntN.{ℤ}
use lib.Dec.{leb, eqb}
use borrow.Author.Tests.{eqb-true}
use Rattle.program.specs.Program.{Program}
use Rattle.machine.specs.Runs.{continued, step_of, long_enough}
use Rattle.machine.specs.Begin.{begin_of, refused}
use Rattle.machine.specs.Changes.{change_of}
use Rattle.machine.specs.Events.{Run, Event, single, budget, change, program_in, in_state, in_force, onward}
use Rattle.machine.specs.Allowed.{vectors_in, step_with, run_with, budget_in_with, budget_with, tried_under_with, tried_in_with, tried_by_with}
use Rattle.machine.specs.Pools.{allowed, refuses21, PoolStepped, pool_step, PoolRan, pool_budget, pool_change, overfull, started_in, PoolBegun, pool_begun_as, pool_begin}
use Rattle.machine.specs.Houses.{Ask, start, go_on, Asked, started_run, go_on_in, ask_in, House, serve, house_after, asks_under, TriedIn, tried_by, tried_ask, history_under}
use Rattle.machine.specs.declared.Answer.{Answer}
use Rattle.machine.specs.declared.Ran.{Ran}
use Rattle.machine.specs.declared.Said.{Said}
use Rattle.machine.specs.declared.State.{State}
use Rattle.machine.specs.declared.Status.{Status}
use Rattle.machine.specs.declared.Stepped.{Stepped}
use Rattle.machine.specs.declared.Pool.{Pool}
use Rattle.runs.specs.Company.{stopped_by}
use Rattle.runs.proofs.Always.{All, all_none, all_cons, all_append, all_map}
use Rattle.runs.proofs.Rules.{step-or}
use Rattle.runs.proofs.Company.{step_is, budget-is, change-is, begin-is, runs-at, runs_other}
use Rattle.runs.proofs.Refusals.{step-21, budget-21, change-21, begin-21}
use Rattle.machine.specs.Denials.{Grant, denied}

-- ---- states of one program, under steps that may stop with VECTORS

module _ (most : ℕ) (P : Program) (Q : State → Type 0) (keeps : (s : State) → Q s → Q (step_of P s).state) (stops : (s : State) → Q s → Q (stopped_by s).state) where
  pub with-keeps : (s : State) → Q s → Q (step_with most P s).state
  with-keeps s q = go (step-or most P s)
    where
      go : (step_with most P s ≡ step_of P s) ⊎ (step_with most P s ≡ stopped_by s) → Q (step_with most P s).state
      go (inl e) = subst (λ (x : Stepped). Q x.state) (sym e) (keeps s q)
      go (inr e) = subst (λ (x : Stepped). Q x.state) (sym e) (stops s q)

  continued-keeps : (s : State) (d : Said) (n : ℕ) (more : State → Ran) → Q s → ((t : State) → Q t → Q (more t).state) → Q (continued s d n more).state
  unfolding continued
  continued-keeps s Said.GoesOn n more q ih = ih s q
  continued-keeps s (Said.Ended e) n more q ih = q
  continued-keeps s Said.Stuck n more q ih = q

  run-keeps : (m : ℕ) (s : State) (n : ℕ) → Q s → Q (run_with most P m s n).state
  unfolding run_with
  run-keeps zero s n q = q
  run-keeps (suc m) s n q = continued-keeps (step_with most P s).state (step_with most P s).said n (λ t. run_with most P m t (n + 1)) (with-keeps s q) (λ t i. run-keeps m t (n + 1) i)

  budget-keeps : (s : State) (n : ℕ) (buffer : List ℤ) → Q s → Q (budget_with most P s n buffer).state
  unfolding budget_with budget_in_with
  budget-keeps s n buffer q = go (long_enough buffer) s.status
    where
      outcome : Bool → Status → Ran
      outcome b st = elim b [ true ↦ budget_in_with most P s n st | false ↦ record { state = s; answer = Answer.Refused 13 0; steps = 0 } ]

      go : (b : Bool) (st : Status) → Q (outcome b st).state
      go true Status.Running = run-keeps n s 0 q
      go true (Status.Ended e) = q
      go false st = q

  onward-all : (s : State) (d : Said) (more : State → List State) → Q s → ((t : State) → Q t → All Q (more t)) → All Q (onward s d more)
  unfolding onward
  onward-all s Said.GoesOn more q ih = ih s q
  onward-all s (Said.Ended e) more q ih = all_none Q
  onward-all s Said.Stuck more q ih = all_none Q

  under_all : (m : ℕ) (s : State) → Q s → All Q (tried_under_with most P m s)
  unfolding tried_under_with
  under_all zero s q = all_none Q
  under_all (suc m) s q = all_cons Q s _ q (onward-all (step_with most P s).state (step_with most P s).said (λ t. tried_under_with most P m t) (with-keeps s q) (λ t i. under_all m t i))

  tried-all : (s : State) (n : ℕ) (buffer : List ℤ) → Q s → All Q (tried_by_with most P s n buffer)
  unfolding tried_by_with tried_in_with
  tried-all s n buffer q = go (long_enough buffer) s.status
    where
      outcome : Bool → Status → List State
      outcome b st = elim b [ true ↦ tried_in_with most P s n st | false ↦ [] ]

      go : (b : Bool) (st : Status) → All Q (outcome b st)
      go true Status.Running = under_all n s q
      go true (Status.Ended e) = all_none Q
      go false st = all_none Q

-- ---- runs under a number

some_is : {r r' : Run} → some r ≡ some r' → r ≡ r'
some_is e = cc

-- of the run that a number has, if it has one
abbrev pub Of : (Run → Type 0) → Option Run → Type 0
Of I o = (r : Run) → o ≡ some r → I r

of_some : (I : Run → Type 0) (r : Run) → I r → Of I (some r)
of_some I r i x e = subst I (some_is e) i

-- what is asked under the number i
abbrev pub Asks : (Ask → Type 0) → ℕ → List Asked → Type 0
Asks ok i l = All ok (asks_under i l)

pub asks-first : (ok : Ask → Type 0) (i : ℕ) (a : Asked) (l : List Asked) → Asks ok i (a ∷ l) → eqb a.number i ≡ true → ok a.ask
unfolding asks_under
asks-first ok i a l k e = go (eqb a.number i) e k
  where
    go : (b : Bool) → b ≡ true → All ok (elim b [ true ↦ a.ask ∷ asks_under i l | false ↦ asks_under i l ]) → ok a.ask
    go true q h = h a.ask (Memᴰ.head refl)
    go false q h = absurd (false≢true q)

pub asks_rest : (ok : Ask → Type 0) (i : ℕ) (a : Asked) (l : List Asked) → Asks ok i (a ∷ l) → Asks ok i l
unfolding asks_under
asks_rest ok i a l k = go (eqb a.number i) k
  where
    go : (b : Bool) → All ok (elim b [ true ↦ a.ask ∷ asks_under i l | false ↦ asks_under i l ]) → All ok (asks_under i l)
    go true h = λ x m. h x (Memᴰ.tail m)
    go false h = h

-- a start that is refused leaves the run
refused-run : {I : Run → Type 0} (image : List ℕ) (x : Option Run) (q o : ℕ) → Of I x → Of I (started_run image (refused q o).state x (refused q o).entry)
unfolding started_run refused
refused-run image x q o i = i

none-some : (r : Run) → none ≡ some r → ⊥
none-some r e = let z : ◌≡◌ {A = ℕ} 0 1 = cc in omega arith

refused-begun : (refused 21 0).entry ≡ Ok tt → ⊥
unfolding refused
refused-begun e = let z : ◌≡◌ {A = ℕ} 0 1 = cc in omega arith

module _ (I : Run → Type 0) (ok : Ask → Type 0)
    (begins : (image : List ℕ) (level f v : ℕ) (words buffer : List ℤ) → ok (start image level f v words buffer) → (begin_of image level f v words buffer).entry ≡ Ok tt → I (record { image = image; state = (begin_of image level f v words buffer).state }))
    (steps : (r : Run) → I r → I (in_state r (step_of (program_in r) r.state).state))
    (taken : (new : List ℕ) (r : Run) → I r → change_of r.image new r.state ≡ Ok tt → I (record { image = new; state = r.state }))
    (stops : (r : Run) → I r → I (in_state r (stopped_by r.state).state))
    (empties : (r : Run) → I r → I (in_state r (overfull r.state))) where
  under : (r : Run) (s : State) → I (in_state r s) → I (in_state r (step_of (program_in r) s).state)
  under r s i = steps (in_state r s) i

  stop-under : (r : Run) (s : State) → I (in_state r s) → I (in_state r (stopped_by s).state)
  stop-under r s i = stops (in_state r s) i

  -- ---- an event

  changed-of : (new : List ℕ) (r : Run) → I r → (c : Grant) → change_of r.image new r.state ≡ c → I (record { image = in_force c r.image new; state = r.state })
  unfolding in_force
  changed-of new r i (Ok _) e = taken new r i e
  changed-of new r i (Err why) e = i

  refused-of : (new : List ℕ) (r : Run) (q o : ℕ) → I r → I (record { image = in_force (Err (denied q o)) r.image new; state = r.state })
  unfolding in_force
  refused-of new r q o i = i

  event-of : (p : Pool) (n : ℕ) (e : Event) (r : Run) → I r → Of I (go_on_in p n e r).run
  unfolding go_on_in
  event-of p n single r i = of_some I _ (go (refuses21 p n) refl)
    where
      go : (b : Bool) → refuses21 p n ≡ b → I (in_state r (pool_step (program_in r) p n r.state).state)
      go true e = subst (λ (x : PoolStepped). I (in_state r x.state)) (sym (step-21 p n e (program_in r) r.state)) i
      go false e = subst (λ (x : PoolStepped). I (in_state r x.state)) (sym (step_is p n e (program_in r) r.state)) (with-keeps (allowed p n) (program_in r) (λ (s : State). I (in_state r s)) (under r) (stop-under r) r.state i)
  event-of p n (budget m buffer) r i = of_some I _ (go (refuses21 p n) refl)
    where
      go : (b : Bool) → refuses21 p n ≡ b → I (in_state r (pool_budget (program_in r) p n r.state m buffer).ran.state)
      go true e = subst (λ (x : PoolRan). I (in_state r x.ran.state)) (sym (budget-21 p n e (program_in r) r.state m buffer)) i
      go false e = subst (λ (x : PoolRan). I (in_state r x.ran.state)) (sym (budget-is p n e (program_in r) r.state m buffer)) (budget-keeps (allowed p n) (program_in r) (λ (s : State). I (in_state r s)) (under r) (stop-under r) r.state m buffer i)
  event-of p n (change new) r i = of_some I _ (go (refuses21 p n) refl)
    where
      after : Grant → Type 0
      after c = I (record { image = in_force c r.image new; state = r.state })

      go : (b : Bool) → refuses21 p n ≡ b → after (pool_change p n r.image new r.state)
      go true e = subst after (sym (change-21 p n e r.image new r.state)) (refused-of new r 21 0 i)
      go false e = subst after (sym (change-is p n e r.image new r.state)) (changed-of new r i (change_of r.image new r.state) refl)

  -- ---- a start

  begun-of : (p : Pool) (n : ℕ) (image : List ℕ) (x : Option Run) → Of I x → (s : State) (e : Grant) → (e ≡ Ok tt → I (record { image = image; state = s })) → let y = pool_begun_as p n (record { state = s; entry = e }) e in Of I (started_run image y.begun.state x y.begun.entry)
  unfolding pool_begun_as started_run started_in
  begun-of p n image x i s (Err why) h = i
  begun-of p n image x i s (Ok _) h = of_some I _ (go (leb (vectors_in s) (allowed p n)))
    where
      go : (b : Bool) → I (record { image = image; state = cond b s (overfull s) })
      go true = h refl
      go false = empties (record { image = image; state = s }) (h refl)

  start_of : (p : Pool) (n : ℕ) (image : List ℕ) (level f v : ℕ) (words buffer : List ℤ) (x : Option Run) → ok (start image level f v words buffer) → Of I x → let y = pool_begin image level f v words buffer p n in Of I (started_run image y.begun.state x y.begun.entry)
  start_of p n image level f v words buffer x k i = go (refuses21 p n) refl
    where
      run : PoolBegun → Option Run
      run y = started_run image y.begun.state x y.begun.entry

      go : (b : Bool) → refuses21 p n ≡ b → Of I (run (pool_begin image level f v words buffer p n))
      go true e = subst (λ (y : PoolBegun). Of I (run y)) (sym (begin-21 p n e image level f v words buffer)) (refused-run {I = I} image x 21 0 i)
      go false e = let b = begin_of image level f v words buffer in subst (λ (y : PoolBegun). Of I (run y)) (sym (begin-is p n e image level f v words buffer)) (begun-of p n image x i b.state b.entry (begins image level f v words buffer k))

  -- a start that is not refused: whatever run the number had
  begun-new : (p : Pool) (n : ℕ) (image : List ℕ) (x : Option Run) (s : State) (e : Grant) → let y = pool_begun_as p n (record { state = s; entry = e }) e in y.begun.entry ≡ Ok tt → (e ≡ Ok tt → I (record { image = image; state = s })) → Of I (started_run image y.begun.state x y.begun.entry)
  unfolding pool_begun_as started_run
  begun-new p n image x s (Err why) b h = let z : ◌≡◌ {A = ℕ} 0 1 = cc in absurd (omega arith)
  begun-new p n image x s (Ok _) b h = begun-of p n image none (λ r q. absurd (none-some r q)) s (Ok tt) h

  pub start-new : (p : Pool) (n : ℕ) (image : List ℕ) (level f v : ℕ) (words buffer : List ℤ) (x : Option Run) → ok (start image level f v words buffer) → (pool_begin image level f v words buffer p n).begun.entry ≡ Ok tt → let y = pool_begin image level f v words buffer p n in Of I (started_run image y.begun.state x y.begun.entry)
  start-new p n image level f v words buffer x k h = go (refuses21 p n) refl
    where
      run : PoolBegun → Option Run
      run y = started_run image y.begun.state x y.begun.entry

      go : (b : Bool) → refuses21 p n ≡ b → Of I (run (pool_begin image level f v words buffer p n))
      go true e = absurd (refused-begun (ap (λ (y : PoolBegun). y.begun.entry) (sym (begin-21 p n e image level f v words buffer)) ∙ h))
      go false e =
          let b = begin_of image level f v words buffer in
          let z = begin-is p n e image level f v words buffer in
          subst (λ (y : PoolBegun). Of I (run y)) (sym z) (begun-new p n image x b.state b.entry (ap (λ (y : PoolBegun). y.begun.entry) (sym z) ∙ h) (begins image level f v words buffer k))

  -- ---- an ask, and a list of them

  ask-of : (p : Pool) (n : ℕ) (a : Ask) (x : Option Run) → ok a → Of I x → Of I (ask_in p n a x).run
  unfolding ask_in
  ask-of p n (start image level f v words buffer) x k i = start_of p n image level f v words buffer x k i
  ask-of p n (go_on e) none k i = i
  ask-of p n (go_on e) (some r) k i = event-of p n e r (i r refl)

  tried_of : (p : Pool) (n : ℕ) (a : Ask) (x : Option Run) → Of I x → All I (tried_ask p n a x)
  unfolding tried_ask tried_by
  tried_of p n (start image level f v words buffer) x i = all_none I
  tried_of p n (go_on e) none i = all_none I
  tried_of p n (go_on e) (some r) i = go (refuses21 p n) e
    where
      go : (b : Bool) (e : Event) → All I (elim b [ true ↦ [] | false ↦ tried_by p n e r ])
      go true e = all_none I
      go false single = all_cons I r [] (i r refl) (all_none I)
      go false (budget m buffer) = all_map I (in_state r) (tried_by_with (allowed p n) (program_in r) r.state m buffer) (tried-all (allowed p n) (program_in r) (λ (s : State). I (in_state r s)) (under r) (stop-under r) r.state m buffer (i r refl))
      go false (change new) = all_none I

  pub serve-of : (a : Asked) (w : House) (n : ℕ) → (eqb a.number n ≡ true → ok a.ask) → Of I (w.runs n) → Of I ((serve a w).house.runs n)
  serve-of a w n k i = go (eqb a.number n) refl
    where
      go : (b : Bool) → eqb a.number n ≡ b → Of I ((serve a w).house.runs n)
      go true e = subst (Of I) (sym (runs-at a w n (eqb-true a.number n e))) (ask-of w.pool n a.ask (w.runs n) (k e) i)
      go false e = subst (Of I) (sym (runs_other a w n e)) i

  -- THE LAW: after a list in which what is asked under the number is ok,
  pub house-of : (n : ℕ) (l : List Asked) (w : House) → Asks ok n l → Of I (w.runs n) → Of I ((house_after l w).runs n)
  unfolding house_after
  house-of n [] w k i = i
  house-of n (a ∷ l) w k i = house-of n l (serve a w).house (asks_rest ok n a l k) (serve-of a w n (asks-first ok n a l k) i)

  -- and wherever a step was tried
  pub history-of : (n : ℕ) (l : List Asked) (w : House) → Asks ok n l → Of I (w.runs n) → All (λ (t : TriedIn). I t.run) (history_under n l w)
  unfolding history_under
  history-of n [] w k i = all_none (λ (t : TriedIn). I t.run)
  history-of n (a ∷ l) w k i = go (eqb a.number n) (history-of n l (serve a w).house (asks_rest ok n a l k) (serve-of a w n (asks-first ok n a l k) i))
    where
      Q : TriedIn → Type 0
      Q t = I t.run

      at : Run → TriedIn
      at r = record { pool = w.pool; run = r }

      go : (b : Bool) → All Q (history_under n l (serve a w).house) → All Q (elim b [ true ↦ map at (tried_ask w.pool n a.ask (w.runs n)) ++ history_under n l (serve a w).house | false ↦ history_under n l (serve a w).house ])
      go true ih = all_append Q (map at (tried_ask w.pool n a.ask (w.runs n))) (history_under n l (serve a w).house) (all_map Q at (tried_ask w.pool n a.ask (w.runs n)) (tried_of w.pool n a.ask (w.runs n) i)) ih
      go false ih = ih
