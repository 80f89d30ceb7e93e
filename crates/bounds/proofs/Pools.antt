-- A bound holds in a pool: what is asked under a number takes no more steps there than some list of events takes without a pool.
use Rattle.std.specs.Prelude.{Err, Ok}
use mathlib.Core.Path.{◌≡◌, refl, sym, ap, ◌∙◌, subst}
use mathlib.Core.Logic.{◌⊎◌, inl, inr}
use mathlib.Core.List.{List, [], ◌∷◌}
use mathlib.Core.Option.{Option, some}
use mathlib.Core.Bool.{Bool, true, false, cond, not, true≢false}
use Prim.Native.Nat.{ℕ, ◌+◌, ◌≤◌}
use native.Mathlib.Omega.{arith}
use lib.IntN.{ℤ}
use lib.Dec.{leb, eqb}
use borrow.Author.Tests.{eqb-true, not-true}
use Rattle.layout.specs.Tests.{◌and◌, all}
use Rattle.layout.proofs.Bools.{and_both}
use Rattle.machine.specs.States.{with_end}
use Rattle.machine.specs.Runs.{last_step, step_in, step_in_to, step_of, step_of_to, long_enough, budget_in, budget_in_to, budget_of, budget_of_to}
use Rattle.machine.specs.Begin.{begin_of, refused}
use Rattle.machine.specs.Events.{Run, Event, single, budget, change, Reply, program_in, in_state, in_force, handle, handle_to, replies, replies_to}
use Rattle.machine.specs.Allowed.{vectors_in, step_with, budget_with}
use Rattle.machine.specs.Pools.{allowed, refuses21, said_in_pool, PoolStepped, pool_step, PoolRan, pool_budget, pool_change, overfull, started_in, PoolBegun, pool_begun_as, pool_begin}
use Rattle.machine.specs.Houses.{Ask, start, go_on, Asked, Heard, began, changed, started_run, go_on_in, ask_in, House, serve, heard_under}
use Rattle.machine.specs.declared.Answer.{Answer}
use Rattle.machine.specs.declared.End.{End}
use Rattle.machine.specs.declared.Pool.{Pool}
use Rattle.machine.specs.declared.PoolSaid.{PoolSaid}
use Rattle.machine.specs.declared.Ran.{Ran}
use Rattle.machine.specs.declared.Said.{Said}
use Rattle.machine.specs.declared.State.{State}
use Rattle.machine.specs.declared.Status.{Status}
use Rattle.machine.specs.declared.Stepped.{Stepped}
use Rattle.runs.specs.Company.{stopped_by, InCompany, same as same_budget, earlier, before_stuck, Budgets}
use Rattle.runs.proofs.Company.{step_is, budget-is, begin-is, heard-at, runs-at, runs_other}
use Rattle.runs.proofs.Refusals.{step-21, budget-21, begin-21}
use Rattle.runs.proofs.Rules.{StepWays, its, stops, nowhere, step-ways, budgets}
use Rattle.soundness.specs.Claim.{begun}
use Rattle.bounds.specs.Claim.{taken, taken_by, taken_in, is_taken, unchanged, AtMost}
use Rattle.bounds.specs.Pools.{taken_turn, taken_ask, taken_under, is_new, stays_under, AtMostPool}
use Rattle.bounds.proofs.Bounded.{bound-holds}
use Rattle.machine.specs.Denials.{Grant, denied}

-- ---- one ask: it takes k steps, and leaves the run o

data Costs (r : Run) (k : ℕ) (o : Option Run) : Type 0 where
  -- it is refused
  idle : k ≡ 0 → o ≡ some r → Costs r k o
  -- it is the event without a pool
  own : (e : Event) → is_taken (handle e r).reply ≡ false → k ≡ taken_by e r → o ≡ some (handle e r).run → Costs r k o
  -- VECTORS came, after no more steps
  ends : (e : Event) → is_taken (handle e r).reply ≡ false → k ≤ taken_by e r → (u : Run) (x : End) → o ≡ some u → u.state.status ≡ Status.Ended x → Costs r k o

turn-taken : (st : Status) (d : Said) → taken_turn st (said_in_pool d) ≡ taken st d
unfolding taken_turn said_in_pool taken
turn-taken Status.Running Said.GoesOn = refl
turn-taken Status.Running (Said.Ended e) = refl
turn-taken Status.Running Said.Stuck = refl
turn-taken (Status.Ended e) Said.GoesOn = refl
turn-taken (Status.Ended e) (Said.Ended x) = refl
turn-taken (Status.Ended e) Said.Stuck = refl

turn-refused : (st : Status) → taken_turn st (PoolSaid.Refused 21 0) ≡ 0
unfolding taken_turn
turn-refused Status.Running = refl
turn-refused (Status.Ended e) = refl

turn-vectors : (st : Status) → taken_turn st (PoolSaid.Ended End.Vectors) ≡ 0
unfolding taken_turn last_step
turn-vectors Status.Running = refl
turn-vectors (Status.Ended e) = refl

stopped-status : (s : State) → (stopped_by s).state.status ≡ Status.Ended End.Vectors
unfolding with_end
stopped-status s = refl

said-untaken : (r : Run) → is_taken (handle single r).reply ≡ false
unfolding handle_to is_taken
said-untaken r = refl

gave-untaken : (n : ℕ) (buffer : List ℤ) (r : Run) → is_taken (handle (budget n buffer) r).reply ≡ false
unfolding handle_to is_taken
gave-untaken n buffer r = refl

module _ (p : Pool) (i : ℕ) where
  single-costs : (r : Run) → Costs r (taken_ask p i (go_on single) (some r)) (ask_in p i (go_on single) (some r)).run
  unfolding taken_ask ask_in go_on_in said_in_pool taken_by handle_to
  single-costs r = go (refuses21 p i) refl
    where
      st : Status
      st = r.state.status

      mine : Stepped
      mine = step_with (allowed p i) (program_in r) r.state

      At : PoolStepped → Type 0
      At y = Costs r (taken_turn st y.turn) (some (in_state r y.state))

      stopped : (y : Stepped) → y ≡ stopped_by r.state → Costs r (taken_turn st (said_in_pool y.said)) (some (in_state r y.state))
      stopped y e =
          let k : taken_turn st (said_in_pool y.said) ≡ 0 = ap (λ (z : Stepped). taken_turn st (said_in_pool z.said)) e ∙ turn-vectors st in
          ends single (said-untaken r) (omega (arith, k)) (in_state r y.state) End.Vectors refl (ap (λ (z : Stepped). z.state.status) e ∙ stopped-status r.state)

      ways : StepWays (allowed p i) (program_in r) r.state → Costs r (taken_turn st (said_in_pool mine.said)) (some (in_state r mine.state))
      ways (its e) = own single (said-untaken r) (ap (λ (z : Stepped). taken_turn st (said_in_pool z.said)) e ∙ turn-taken st (step_of (program_in r) r.state).said) (ap (λ (z : Stepped). some (in_state r z.state)) e)
      ways (stops e d) = stopped mine e
      ways (nowhere e d) = stopped mine e

      go : (b : Bool) → refuses21 p i ≡ b → At (pool_step (program_in r) p i r.state)
      go true e = subst At (sym (step-21 p i e (program_in r) r.state)) (idle (turn-refused st) refl)
      go false e = subst At (sym (step_is p i e (program_in r) r.state)) (ways (step-ways (allowed p i) (program_in r) r.state))

  budget-costs : (n : ℕ) (buffer : List ℤ) (r : Run) → Costs r (taken_ask p i (go_on (budget n buffer)) (some r)) (ask_in p i (go_on (budget n buffer)) (some r)).run
  unfolding taken_ask ask_in go_on_in taken_by handle_to Budgets
  budget-costs n buffer r = go (refuses21 p i) refl
    where
      mine : Ran
      mine = budget_with (allowed p i) (program_in r) r.state n buffer

      theirs : Ran
      theirs = budget_of (program_in r) r.state n buffer

      At : PoolRan → Type 0
      At y = Costs r y.ran.steps (some (in_state r y.ran.state))

      ways : InCompany (program_in r) r.state mine theirs → Costs r mine.steps (some (in_state r mine.state))
      ways (same_budget e) = own (budget n buffer) (gave-untaken n buffer r) (ap (λ (z : Ran). z.steps) e) (ap (λ (z : Ran). some (in_state r z.state)) e)
      ways (earlier a k s) = ends (budget n buffer) (gave-untaken n buffer r) (omega (arith, k)) (in_state r mine.state) End.Vectors refl (ap (λ (t : State). t.status) s ∙ stopped-status _)
      ways (before_stuck a b k s) = ends (budget n buffer) (gave-untaken n buffer r) (omega (arith, k)) (in_state r mine.state) End.Vectors refl (ap (λ (t : State). t.status) s ∙ stopped-status _)

      go : (b : Bool) → refuses21 p i ≡ b → At (pool_budget (program_in r) p i r.state n buffer)
      go true e = subst At (sym (budget-21 p i e (program_in r) r.state n buffer)) (idle refl refl)
      go false e = subst At (sym (budget-is p i e (program_in r) r.state n buffer)) (ways (budgets (allowed p i) (program_in r) r.state n buffer))

  ask-costs : (a : Ask) (r : Run) → is_new (ask_in p i a (some r)).heard ≡ false → Costs r (taken_ask p i a (some r)) (ask_in p i a (some r)).run
  unfolding taken_ask ask_in go_on_in is_new started_run in_force
  ask-costs (start image level f v words buffer) r h = go (pool_begin image level f v words buffer p i).begun.entry h
    where
      s : State
      s = (pool_begin image level f v words buffer p i).begun.state

      go : (e : Grant) → is_new (began e) ≡ false → Costs r 0 (started_run image s (some r) e)
      go (Err why) g = idle refl refl
      go (Ok _) g = absurd (true≢false g)
  ask-costs (go_on single) r h = single-costs r
  ask-costs (go_on (budget n buffer)) r h = budget-costs n buffer r
  ask-costs (go_on (change new)) r h = go (pool_change p i r.image new r.state) h
    where
      go : (c : Grant) → is_new (changed c) ≡ false → Costs r 0 (some (record { image = in_force c r.image new; state = r.state }))
      go (Ok _) g = absurd (true≢false g)
      go (Err why) g = idle refl refl

-- ---- a run that has ended takes none

ended-taken : (e : Event) (r : Run) (x : End) → r.state.status ≡ Status.Ended x → taken_by e r ≡ 0
unfolding taken_by taken budget_of_to budget_in_to
ended-taken single r x h = ap (λ (st : Status). taken st (step_of (program_in r) r.state).said) h
ended-taken (budget n buffer) r x h = go (long_enough buffer) r.state.status h
  where
    outcome : Bool → Status → Ran
    outcome b st = elim b [ true ↦ budget_in (program_in r) r.state n st | false ↦ record { state = r.state; answer = Answer.Refused 13 0; steps = 0 } ]

    go : (b : Bool) (st : Status) → st ≡ Status.Ended x → (outcome b st).steps ≡ 0
    go true Status.Running q = let z : ◌≡◌ {A = ℕ} 0 1 = cc in absurd (omega arith)
    go true (Status.Ended y) q = refl
    go false st q = refl
ended-taken (change new) r x h = refl

ended-stays : (e : Event) (r : Run) (x : End) → r.state.status ≡ Status.Ended x → (handle e r).run.state.status ≡ Status.Ended x
unfolding handle_to step_of_to step_in_to budget_of_to budget_in_to
ended-stays single r x h = ap (λ (st : Status). (step_in (program_in r) r.state st).state.status) h ∙ h
ended-stays (budget n buffer) r x h = go (long_enough buffer) r.state.status h
  where
    outcome : Bool → Status → Ran
    outcome b st = elim b [ true ↦ budget_in (program_in r) r.state n st | false ↦ record { state = r.state; answer = Answer.Refused 13 0; steps = 0 } ]

    go : (b : Bool) (st : Status) → st ≡ Status.Ended x → (outcome b st).state.status ≡ Status.Ended x
    go true Status.Running q = let z : ◌≡◌ {A = ℕ} 0 1 = cc in absurd (omega arith)
    go true (Status.Ended y) q = h
    go false st q = h
ended-stays (change new) r x h = h

-- ---- lists

-- what one ask takes and leaves in the house
module _ (i : ℕ) where
  -- the first ask of a list, where it is under i and brings neither a run nor an image
  first-costs : (a : Asked) (w : House) (r : Run) → a.number ≡ i → w.runs i ≡ some r → is_new (serve a w).heard ≡ false → Costs r (taken_ask w.pool i a.ask (w.runs i)) ((serve a w).house.runs i)
  first-costs a w r e is h =
      subst (Costs r (taken_ask w.pool i a.ask (w.runs i))) (sym (runs-at a w i e))
      (subst (λ (o : Option Run). Costs r (taken_ask w.pool i a.ask o) (ask_in w.pool i a.ask o).run) (sym is)
      (ask-costs w.pool i a.ask r (ap (λ (o : Option Run). is_new (ask_in w.pool i a.ask o).heard) (sym is) ∙ ap is_new (sym (heard-at a w i e)) ∙ h)))

  -- that it does, and the rest
  first-stays : (a : Asked) (l : List Asked) (w : House) → eqb a.number i ≡ true → stays_under i (a ∷ l) w ≡ true → (is_new (serve a w).heard ≡ false) × (stays_under i l (serve a w).house ≡ true)
  unfolding stays_under heard_under all
  first-stays a l w e h = go (eqb a.number i) e h
    where
      go : (b : Bool) → b ≡ true → all (λ (x : Heard). not (is_new x)) (elim b [ true ↦ (serve a w).heard ∷ heard_under i l (serve a w).house | false ↦ heard_under i l (serve a w).house ]) ≡ true
          → (is_new (serve a w).heard ≡ false) × (all (λ (x : Heard). not (is_new x)) (heard_under i l (serve a w).house) ≡ true)
      go true q g = let t = and_both (not (is_new (serve a w).heard)) (all (λ (x : Heard). not (is_new x)) (heard_under i l (serve a w).house)) g in (not-true (is_new (serve a w).heard) t.0, t.1)
      go false q g = absurd (true≢false (sym q))

  rest-stays : (a : Asked) (l : List Asked) (w : House) → eqb a.number i ≡ false → stays_under i (a ∷ l) w ≡ true → stays_under i l (serve a w).house ≡ true
  unfolding stays_under heard_under
  rest-stays a l w e h = go (eqb a.number i) e h
    where
      go : (b : Bool) → b ≡ false → all (λ (x : Heard). not (is_new x)) (elim b [ true ↦ (serve a w).heard ∷ heard_under i l (serve a w).house | false ↦ heard_under i l (serve a w).house ]) ≡ true
          → all (λ (x : Heard). not (is_new x)) (heard_under i l (serve a w).house) ≡ true
      go true q g = absurd (true≢false q)
      go false q g = g

  -- behind an end no step is taken
  none_more : (l : List Asked) (w : House) (r : Run) (x : End) → w.runs i ≡ some r → r.state.status ≡ Status.Ended x → stays_under i l w ≡ true → taken_under i l w ≡ 0
  unfolding taken_under
  none_more [] w r x is h k = refl
  none_more (a ∷ l) w r x is h k = go (eqb a.number i) refl (none_more l (serve a w).house)
    where
      Rest : Type 0
      Rest = (r : Run) (x : End) → (serve a w).house.runs i ≡ some r → r.state.status ≡ Status.Ended x → stays_under i l (serve a w).house ≡ true → taken_under i l (serve a w).house ≡ 0

      costs : (m : ℕ) → Costs r m ((serve a w).house.runs i) → stays_under i l (serve a w).house ≡ true → Rest → m + taken_under i l (serve a w).house ≡ 0
      costs m (idle z o) s ih = let t = ih r x o h s in omega (arith, z, t)
      costs m (own e u z o) s ih = let t = ih (handle e r).run x o (ended-stays e r x h) s in let y = ended-taken e r x h in omega (arith, z, t, y)
      costs m (ends e u z v y o g) s ih = let t = ih v y o g s in let c = ended-taken e r x h in omega (arith, z, t, c)

      go : (b : Bool) → eqb a.number i ≡ b → Rest → cond b (taken_ask w.pool i a.ask (w.runs i)) 0 + taken_under i l (serve a w).house ≡ 0
      go true e ih = let s = first-stays a l w e k in costs (taken_ask w.pool i a.ask (w.runs i)) (first-costs a w r (eqb-true a.number i e) is s.0) s.1 ih
      go false e ih = let t = ih r x (runs_other a w i e ∙ is) h (rest-stays a l w e k) in omega (arith, t)

  unchanged-none : (r : Run) → unchanged [] r ≡ true
  unfolding unchanged replies_to all
  unchanged-none r = refl

  unchanged-next : (e : Event) (es : List Event) (r : Run) → is_taken (handle e r).reply ≡ false → unchanged es (handle e r).run ≡ true → unchanged (e ∷ es) r ≡ true
  unfolding unchanged replies_to all ◌and◌ not
  unchanged-next e es r h k = ap (λ (b : Bool). not b and all (λ (x : Reply). not (is_taken x)) (replies es (handle e r).run)) h ∙ k

  -- events that take at least as many without a pool
  record More (r : Run) (m : ℕ) : Type 0 where
    events : List Event
    stays : unchanged events r ≡ true
    most : m ≤ taken_in events r

  no_more : (r : Run) (m : ℕ) → m ≡ 0 → More r m
  unfolding taken_in
  no_more r m e = record { events = []; stays = unchanged-none r; most = omega (arith, e) }

  one_more : (e : Event) (r : Run) (m k : ℕ) → is_taken (handle e r).reply ≡ false → m ≤ taken_by e r → More (handle e r).run k → More r (m + k)
  unfolding taken_in
  one_more e r m k u l t = let z = t.most in record { events = e ∷ t.events; stays = unchanged-next e t.events r u t.stays; most = omega (arith, l, z) }

  under : (l : List Asked) (w : House) (r : Run) → w.runs i ≡ some r → stays_under i l w ≡ true → More r (taken_under i l w)
  unfolding taken_under
  under [] w r is k = no_more r 0 refl
  under (a ∷ l) w r is k = go (eqb a.number i) refl (under l (serve a w).house)
    where
      Rest : Type 0
      Rest = (r : Run) → (serve a w).house.runs i ≡ some r → stays_under i l (serve a w).house ≡ true → More r (taken_under i l (serve a w).house)

      costs : (m : ℕ) → Costs r m ((serve a w).house.runs i) → stays_under i l (serve a w).house ≡ true → Rest → More r (m + taken_under i l (serve a w).house)
      costs m (idle z o) s ih = let t = ih r o s in let y = t.most in record { events = t.events; stays = t.stays; most = omega (arith, z, y) }
      costs m (own e u z o) s ih = one_more e r m (taken_under i l (serve a w).house) u (omega (arith, z)) (ih (handle e r).run o s)
      costs m (ends e u z v x o g) s ih = one_more e r m (taken_under i l (serve a w).house) u z (no_more (handle e r).run (taken_under i l (serve a w).house) (none_more l (serve a w).house v x o g s))

      go : (b : Bool) → eqb a.number i ≡ b → Rest → More r (cond b (taken_ask w.pool i a.ask (w.runs i)) 0 + taken_under i l (serve a w).house)
      go true e ih = let s = first-stays a l w e k in costs (taken_ask w.pool i a.ask (w.runs i)) (first-costs a w r (eqb-true a.number i e) is s.0) s.1 ih
      go false e ih = let t = ih r (runs_other a w i e ∙ is) (rest-stays a l w e k) in let y = t.most in record { events = t.events; stays = t.stays; most = omega (arith, y) }

-- ---- from the start

overfull-status : (s : State) → (overfull s).status ≡ Status.Ended End.Vectors
unfolding with_end
overfull-status s = refl

refused-begun : (q o : ℕ) → began (Err (denied q o)) ≡ began (Ok tt) → ⊥
refused-begun q o e = let z : ◌≡◌ {A = ℕ} 0 1 = cc in omega arith

-- a start that is not refused: it begins without a pool, and its run is the first state or has stopped
record Starts (p : Pool) (i : ℕ) (image : List ℕ) (level f v : ℕ) (words buffer : List ℤ) (o : Option Run) : Type 0 where
  entered : (begin_of image level f v words buffer).entry ≡ Ok tt
  run : (o ≡ some (begun image level f v words buffer)) ⊎ (o ≡ some (record { image = image; state = overfull (begin_of image level f v words buffer).state }))

begun-starts : (p : Pool) (i : ℕ) (image : List ℕ) (level f v : ℕ) (words buffer : List ℤ) (o : Option Run) (e : Grant) → let b = begin_of image level f v words buffer in
    b.entry ≡ e → let y = pool_begun_as p i b e in began y.begun.entry ≡ began (Ok tt) → Starts p i image level f v words buffer (started_run image y.begun.state o y.begun.entry)
unfolding pool_begun_as started_run started_in
begun-starts p i image level f v words buffer o (Err why) d h = absurd (refused-begun why.question why.at (ap began (sym d) ∙ h))
begun-starts p i image level f v words buffer o (Ok _) d h = record { entered = d; run = go (leb (vectors_in s) (allowed p i)) }
  where
    s : State
    s = (begin_of image level f v words buffer).state

    go : (b : Bool) → (◌≡◌ {A = Option Run} (some (record { image = image; state = cond b s (overfull s) })) (some (begun image level f v words buffer))) ⊎ (◌≡◌ {A = Option Run} (some (record { image = image; state = cond b s (overfull s) })) (some (record { image = image; state = overfull s })))
    go true = inl refl
    go false = inr refl

start-starts : (p : Pool) (i : ℕ) (image : List ℕ) (level f v : ℕ) (words buffer : List ℤ) (o : Option Run) → let y = pool_begin image level f v words buffer p i in began y.begun.entry ≡ began (Ok tt)
    → Starts p i image level f v words buffer (started_run image y.begun.state o y.begun.entry)
unfolding refused
start-starts p i image level f v words buffer o = go (refuses21 p i) refl
  where
    At : PoolBegun → Type 0
    At y = began y.begun.entry ≡ began (Ok tt) → Starts p i image level f v words buffer (started_run image y.begun.state o y.begun.entry)

    go : (b : Bool) → refuses21 p i ≡ b → At (pool_begin image level f v words buffer p i)
    go true e = subst At (sym (begin-21 p i e image level f v words buffer)) (λ h. absurd (refused-begun 21 0 h))
    go false e = subst At (sym (begin-is p i e image level f v words buffer)) (begun-starts p i image level f v words buffer o (begin_of image level f v words buffer).entry refl)

-- THE LAW: a bound holds in a pool
pub bound-holds-in-pool : AtMostPool
unfolding AtMostPool AtMost serve ask_in
bound-holds-in-pool w i image level f v words buffer h W found n given l k = go t.run
  where
    a : Asked
    a = record { number = i; ask = start image level f v words buffer }

    y : PoolBegun
    y = pool_begin image level f v words buffer w.pool i

    o : Option Run
    o = started_run image y.begun.state (w.runs i) y.begun.entry

    t : Starts w.pool i image level f v words buffer o
    t = start-starts w.pool i image level f v words buffer (w.runs i) h

    is : (serve a w).house.runs i ≡ o
    is = runs-at a w i refl

    go : (o ≡ some (begun image level f v words buffer)) ⊎ (o ≡ some (record { image = image; state = overfull (begin_of image level f v words buffer).state })) → taken_under i l (serve a w).house ≤ n
    go (inl e) =
        let m = under i l (serve a w).house (begun image level f v words buffer) (is ∙ e) k in
        let c = bound-holds image level f v words buffer t.entered W found n given m.events m.stays in
        let z = m.most in
        omega (arith, c, z)
    go (inr e) = let c = none_more i l (serve a w).house _ End.Vectors (is ∙ e) (overfull-status (begin_of image level f v words buffer).state) k in omega (arith, c)
