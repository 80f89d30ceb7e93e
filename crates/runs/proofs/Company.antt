-- All that is heard under a number of the pool, beside what is heard without a pool; and what refusals leave.
use Rattle.std.specs.Prelude.{Err, Ok}
use mathlib.Core.Path.{◌≡◌, refl, sym, ap, ◌∙◌, subst}
use mathlib.Core.Logic.{◌⊎◌, inl, inr}
use mathlib.Core.List.{List, [], ◌∷◌, ◌++◌, append_assoc, append-nil}
use mathlib.Core.Option.{Option, none, some}
use mathlib.Core.Bool.{Bool, true, false, cond, true≢false}
use Prim.Native.Nat.{ℕ, ◌<◌}
use native.Mathlib.Omega.{arith}
use lib.IntN.{ℤ}
use lib.ListN.{get_or}
use lib.Dec.{leb, eqb}
use borrow.Author.Tests.{le-leb, eqb-true, eq-eqb}
use Rattle.program.specs.Program.{Program}
use Rattle.machine.specs.States.{VECTORS, over, with_end}
use Rattle.machine.specs.Runs.{step_in, step_in_to, step_of, step_of_to, long_enough, run_from_to, budget_in, budget_in_to, budget_of, budget_of_to, written, buffer_of}
use Rattle.machine.specs.Begin.{begin_of, refused}
use Rattle.machine.specs.Changes.{change_of}
use Rattle.machine.specs.Events.{Run, Event, single, budget, change, program_in, in_state, in_force, handle, handle_to}
use Rattle.machine.specs.Allowed.{vectors_in, step_in_with, step_with, budget_in_with, budget_with}
use Rattle.machine.specs.Pools.{RUNS, allowed, over_reserved, refuses21, fresh, said_in_pool, PoolStepped, pool_step, noted, noted_after, PoolRan, pool_budget, pool_change, overfull, started_in, PoolBegun, pool_begun_as, pool_begin}
use Rattle.machine.specs.Houses.{Ask, start, go_on, Asked, Heard, began, turned, spent, changed, nobody, heard21, started_run, go_on_in, ask_in, House, opened, placed, serve, house_after, heard_under, asks_under, heard_as, ask_alone, heard_alone, run_alone}
use Rattle.machine.specs.declared.Answer.{Answer}
use Rattle.machine.specs.declared.Begun.{Begun}
use Rattle.machine.specs.declared.End.{End}
use Rattle.machine.specs.declared.Pool.{Pool}
use Rattle.machine.specs.declared.Ran.{Ran}
use Rattle.machine.specs.declared.Said.{Said}
use Rattle.machine.specs.declared.State.{State}
use Rattle.machine.specs.declared.Status.{Status}
use Rattle.machine.specs.declared.Stepped.{Stepped}
use Rattle.machine.specs.declared.PoolSaid.{PoolSaid}
use Rattle.runs.specs.Company.{stopped_by, Alone, stopped_after, InCompany, same as same_budget, earlier, before_stuck, Budgets, Comes, by_single, by_budget, single_stuck, budget_stuck, Again, a_single, a_budget, a_refusal, a_change, Pace, in_step, stopped, Beside, end, same, comes, at_once, again, refused as refused_start, anew, CompanyBut, Company, Stopped, inside, at_start, SameRuns}
use Rattle.runs.proofs.Caps.{step-64, budget-64, vectors-most}
use Rattle.runs.proofs.Rules.{StepWays, its, stops, nowhere, step-ways, budgets}
use Rattle.runs.proofs.Stores.{Order, placed_same, placed-other, serve-keeps, opened-order, may-64, none-refused}
use Rattle.machine.specs.Denials.{Grant, denied}

-- ---- what is asked under a number that 21 does not refuse

module _ (p : Pool) (i : ℕ) (passes : refuses21 p i ≡ false) where
  pub step_is : (P : Program) (s : State) → pool_step P p i s ≡ let r = step_with (allowed p i) P s in record { pool = noted p i r.state; state = r.state; turn = said_in_pool r.said }
  unfolding pool_step
  step_is P s = ap outcome passes
    where
      outcome : Bool → PoolStepped
      outcome b = elim b [ true ↦ record { pool = p; state = s; turn = PoolSaid.Refused 21 0 } | false ↦ let r = step_with (allowed p i) P s in record { pool = noted p i r.state; state = r.state; turn = said_in_pool r.said } ]

  pub budget-is : (P : Program) (s : State) (n : ℕ) (buffer : List ℤ) → pool_budget P p i s n buffer ≡ let r = budget_with (allowed p i) P s n buffer in record { pool = noted_after p i r r.answer; ran = r }
  unfolding pool_budget
  budget-is P s n buffer = ap outcome passes
    where
      outcome : Bool → PoolRan
      outcome b = elim b [ true ↦ record { pool = p; ran = record { state = s; answer = Answer.Refused 21 0; steps = 0 } } | false ↦ let r = budget_with (allowed p i) P s n buffer in record { pool = noted_after p i r r.answer; ran = r } ]

  pub change-is : (old new : List ℕ) (s : State) → pool_change p i old new s ≡ change_of old new s
  unfolding pool_change
  change-is old new s = ap outcome passes
    where
      outcome : Bool → Grant
      outcome b = elim b [ true ↦ Err (denied 21 0) | false ↦ change_of old new s ]

  pub begin-is : (image : List ℕ) (level f v : ℕ) (words buffer : List ℤ) → pool_begin image level f v words buffer p i ≡ let b = begin_of image level f v words buffer in pool_begun_as p i b b.entry
  unfolding pool_begin
  begin-is image level f v words buffer = ap outcome passes
    where
      outcome : Bool → PoolBegun
      outcome x = elim x [ true ↦ record { pool = p; begun = refused 21 0 } | false ↦ let b = begin_of image level f v words buffer in pool_begun_as p i b b.entry ]

-- ---- the reserve 64

-- the same is heard, and the same run is left
abbrev Equal : Pool → ℕ → Ask → Option Run → Type 0
Equal p i a x = ((ask_in p i a x).heard ≡ (ask_alone a x).heard) × ((ask_in p i a x).run ≡ (ask_alone a x).run)

module _ (p : Pool) (i : ℕ) (passes : refuses21 p i ≡ false) (all : allowed p i ≡ VECTORS) where
  -- a start may have all that it needs
  started-64 : (s : State) → started_in p i s ≡ s
  unfolding started_in
  started-64 s = ap (λ (b : Bool). cond b s (overfull s)) (le-leb (vectors_in s) (allowed p i) (omega (arith, all, vectors-most s)))

  begun-64 : (image : List ℕ) (x : Option Run) (s : State) (e : Grant) → let y = pool_begun_as p i (record { state = s; entry = e }) e in (began y.begun.entry ≡ began e) × (started_run image y.begun.state x y.begun.entry ≡ started_run image s x e)
  unfolding pool_begun_as started_run
  begun-64 image x s (Err why) = (refl, refl)
  begun-64 image x s (Ok _) = (refl, ap (λ (t : State). some (record { image = image; state = t })) (started-64 s))

  event-64 : (e : Event) (r : Run) → Equal p i (go_on e) (some r)
  unfolding ask_in go_on_in ask_alone handle_to heard_as
  event-64 single r =
      let q : step_with (allowed p i) (program_in r) r.state ≡ step_of (program_in r) r.state = ap (λ (m : ℕ). step_with m (program_in r) r.state) all ∙ step-64 (program_in r) r.state in
      let z = step_is p i passes (program_in r) r.state in
      (ap (λ (x : PoolStepped). turned x.turn) z ∙ ap (λ (x : Stepped). turned (said_in_pool x.said)) q, ap (λ (x : PoolStepped). some (in_state r x.state)) z ∙ ap (λ (x : Stepped). some (in_state r x.state)) q)
  event-64 (budget n buffer) r =
      let q : budget_with (allowed p i) (program_in r) r.state n buffer ≡ budget_of (program_in r) r.state n buffer = ap (λ (m : ℕ). budget_with m (program_in r) r.state n buffer) all ∙ budget-64 (program_in r) r.state n buffer in
      let z = budget-is p i passes (program_in r) r.state n buffer in
      (ap (λ (x : PoolRan). spent x.ran.answer x.ran.steps (buffer_of x.ran buffer)) z ∙ ap (λ (x : Ran). spent x.answer x.steps (buffer_of x buffer)) q, ap (λ (x : PoolRan). some (in_state r x.ran.state)) z ∙ ap (λ (x : Ran). some (in_state r x.state)) q)
  event-64 (change new) r =
      let z = change-is p i passes r.image new r.state in
      (ap changed z, ap (λ (c : Grant). some (record { image = in_force c r.image new; state = r.state })) z)

  ask-64 : (a : Ask) (x : Option Run) → Equal p i a x
  unfolding ask_in ask_alone
  ask-64 (start image level f v words buffer) x =
      let b = begin_of image level f v words buffer in
      let z = begin-is p i passes image level f v words buffer in
      let y = begun-64 image x b.state b.entry in
      (ap (λ (k : PoolBegun). began k.begun.entry) z ∙ y.0, ap (λ (k : PoolBegun). started_run image k.begun.state x k.begun.entry) z ∙ y.1)
  ask-64 (go_on e) none = (ap (λ (b : Bool). cond b (heard21 (go_on e)) nobody) passes, refl)
  ask-64 (go_on e) (some r) = event-64 e r

-- ---- lists: what is asked under another number leaves the run of this one

pub heard-at : (a : Asked) (w : House) (i : ℕ) → a.number ≡ i → (serve a w).heard ≡ (ask_in w.pool i a.ask (w.runs i)).heard
unfolding serve
heard-at a w i e = ap (λ (j : ℕ). (ask_in w.pool j a.ask (w.runs j)).heard) e

pub runs-at : (a : Asked) (w : House) (i : ℕ) → a.number ≡ i → (serve a w).house.runs i ≡ (ask_in w.pool i a.ask (w.runs i)).run
unfolding serve
runs-at a w i e = ap (λ (j : ℕ). placed w.runs j (ask_in w.pool j a.ask (w.runs j)).run i) e ∙ placed_same w.runs i (ask_in w.pool i a.ask (w.runs i)).run

pub runs_other : (a : Asked) (w : House) (i : ℕ) → eqb a.number i ≡ false → (serve a w).house.runs i ≡ w.runs i
unfolding serve
runs_other a w i e = placed-other w.runs a.number i _ (λ q. absurd (true≢false (sym (eq-eqb a.number i (sym q)) ∙ e)))

module _ (reserves : List ℕ) (fits : over_reserved reserves ≡ false) (i : ℕ) (l : i < RUNS) (all : get_or reserves i 0 ≡ VECTORS) where
  alone-heard : (asks : List Asked) (w : House) → Order reserves w → heard_under i asks w ≡ heard_alone (asks_under i asks) (w.runs i)
  unfolding heard_under asks_under heard_alone
  alone-heard [] w o = refl
  alone-heard (a ∷ asks) w o = go (eqb a.number i) refl (alone-heard asks (serve a w).house (serve-keeps reserves a w o))
    where
      go : (b : Bool) → eqb a.number i ≡ b → heard_under i asks (serve a w).house ≡ heard_alone (asks_under i asks) ((serve a w).house.runs i)
          → ◌≡◌ {A = List Heard} (elim b [ true ↦ (serve a w).heard ∷ heard_under i asks (serve a w).house | false ↦ heard_under i asks (serve a w).house ]) (heard_alone (elim b [ true ↦ a.ask ∷ asks_under i asks | false ↦ asks_under i asks ]) (w.runs i))
      go true e ih =
          let n = eqb-true a.number i e in
          let y = ask-64 w.pool i (none-refused reserves w fits o i l) (may-64 reserves w o i l all) a.ask (w.runs i) in
          let h : (serve a w).heard ≡ (ask_alone a.ask (w.runs i)).heard = heard-at a w i n ∙ y.0 in
          let r : (serve a w).house.runs i ≡ (ask_alone a.ask (w.runs i)).run = runs-at a w i n ∙ y.1 in
          ap (λ (k : Heard). k ∷ heard_under i asks (serve a w).house) h ∙ ap (λ (ks : List Heard). (ask_alone a.ask (w.runs i)).heard ∷ ks) (ih ∙ ap (heard_alone (asks_under i asks)) r)
      go false e ih = ih ∙ ap (heard_alone (asks_under i asks)) (runs_other a w i e)

  alone-run : (asks : List Asked) (w : House) → Order reserves w → (house_after asks w).runs i ≡ run_alone (asks_under i asks) (w.runs i)
  unfolding house_after asks_under run_alone
  alone-run [] w o = refl
  alone-run (a ∷ asks) w o = go (eqb a.number i) refl (alone-run asks (serve a w).house (serve-keeps reserves a w o))
    where
      go : (b : Bool) → eqb a.number i ≡ b → (house_after asks (serve a w).house).runs i ≡ run_alone (asks_under i asks) ((serve a w).house.runs i)
          → (house_after asks (serve a w).house).runs i ≡ run_alone (elim b [ true ↦ a.ask ∷ asks_under i asks | false ↦ asks_under i asks ]) (w.runs i)
      go true e ih =
          let n = eqb-true a.number i e in
          let y = ask-64 w.pool i (none-refused reserves w fits o i l) (may-64 reserves w o i l all) a.ask (w.runs i) in
          ih ∙ ap (run_alone (asks_under i asks)) (runs-at a w i n ∙ y.1)
      go false e ih = ih ∙ ap (run_alone (asks_under i asks)) (runs_other a w i e)

-- THE LAW: under a number with the reserve 64
pub alone : Alone
unfolding Alone
alone reserves n e asks i l all = let o = opened-order reserves n e in (alone-heard reserves e i l all asks (opened (fresh reserves)) o, alone-run reserves e i l all asks (opened (fresh reserves)) o)

-- ---- in company

-- without a pool, one more ask
alone-snoc : (pre : List Ask) (a : Ask) (o : Option Run) → run_alone (pre ++ (a ∷ [])) o ≡ (ask_alone a (run_alone pre o)).run
unfolding run_alone
alone-snoc [] a o = refl
alone-snoc (b ∷ pre) a o = alone-snoc pre a (ask_alone b o).run

alone-next : (pre : List Ask) (a : Ask) (y : Option Run) → run_alone pre none ≡ y → run_alone (pre ++ (a ∷ [])) none ≡ (ask_alone a y).run
alone-next pre a y e = alone-snoc pre a none ∙ ap (λ (z : Option Run). (ask_alone a z).run) e

-- a run that has stopped, behind one more ask that leaves its state
grow : (pre : List Ask) (a : Ask) (r r' : Run) → Stopped pre r → (ask_alone a (some r)).run ≡ some r' → r'.state ≡ r.state → Stopped (pre ++ (a ∷ [])) r'
grow pre a r r' (inside xs e ys u n split was st image) next stays =
    inside xs e (ys ++ (a ∷ [])) u n (ap (λ (l : List Ask). l ++ (a ∷ [])) split ∙ append_assoc xs (go_on e ∷ ys) (a ∷ [])) was (stays ∙ st)
    (sym (alone-snoc ys a (some (in_state u r'.state)) ∙ ap (λ (z : Option Run). (ask_alone a z).run) (ap (λ (s : State). run_alone ys (some (in_state u s))) stays ∙ sym image) ∙ next))
grow pre a r r' (at_start xs image level f v words buffer ys split begun st held) next stays =
    at_start xs image level f v words buffer (ys ++ (a ∷ [])) (ap (λ (l : List Ask). l ++ (a ∷ [])) split ∙ append_assoc xs (start image level f v words buffer ∷ ys) (a ∷ [])) begun (stays ∙ st)
    (sym (alone-snoc ys a (some (record { image = image; state = r'.state })) ∙ ap (λ (z : Option Run). (ask_alone a z).run) (ap (λ (s : State). run_alone ys (some (record { image = image; state = s }))) stays ∙ sym held) ∙ next))

-- behind the asks `pre`, the run in the pool and the one without: the same; or the first has stopped with VECTORS
unfoldable Rel : List Ask → Pace → Option Run → Type 0
Rel pre (in_step y) o = (o ≡ y) × (run_alone pre none ≡ y)
Rel pre (stopped r) o = (o ≡ some r) × (r.state.status ≡ Status.Ended End.Vectors) × Stopped pre r

-- after one ask: where the two are, and how what is heard behind it goes on
record Next (pre : List Ask) (q : Pace) (a : Ask) (h g : Heard) (o : Option Run) : Type 0 where
  pace : Pace
  rel : Rel (pre ++ (a ∷ [])) pace o
  link : (l : List Ask) (hs gs : List Heard) → Beside (Unit {0}) pace l hs gs → Beside (Unit {0}) q (a ∷ l) (h ∷ hs) (g ∷ gs)

-- the same is heard
next-same : (pre : List Ask) (a : Ask) (y : Option Run) → run_alone pre none ≡ y → Next pre (in_step y) a (ask_alone a y).heard (ask_alone a y).heard (ask_alone a y).run
unfolding Rel
next-same pre a y was = record { pace = in_step (ask_alone a y).run; rel = (refl, alone-next pre a y was); link = λ l hs gs b. same y a (ask_alone a y).heard l hs gs b }

-- VECTORS writes nothing
vectors-buffer : (r : Ran) (buffer : List ℤ) → r.answer ≡ Answer.Ended End.Vectors → buffer_of r buffer ≡ buffer
unfolding buffer_of written over
vectors-buffer r buffer e = ap (λ (a : Answer). over (written r.state.result a) buffer) e

stopped-status : (s : State) → (stopped_by s).state.status ≡ Status.Ended End.Vectors
unfolding with_end
stopped-status s = refl

overfull-status : (s : State) → (overfull s).status ≡ Status.Ended End.Vectors
unfolding with_end
overfull-status s = refl

-- an ended run
ended-step : (m : ℕ) (P : Program) (s : State) (e : End) → s.status ≡ Status.Ended e → step_with m P s ≡ record { state = s; said = Said.Ended e }
unfolding step_with step_in_with
ended-step m P s e h = ap (step_in_with m P s) h

pub ended-long : (m : ℕ) (P : Program) (s : State) (n : ℕ) (buffer : List ℤ) (e : End) → s.status ≡ Status.Ended e → long_enough buffer ≡ true → budget_with m P s n buffer ≡ record { state = s; answer = Answer.Ended e; steps = 0 }
unfolding budget_with budget_in_with
ended-long m P s n buffer e h k = ap outcome k ∙ ap (budget_in_with m P s n) h
  where
    outcome : Bool → Ran
    outcome b = elim b [ true ↦ budget_in_with m P s n s.status | false ↦ record { state = s; answer = Answer.Refused 13 0; steps = 0 } ]

short : (m : ℕ) (P : Program) (s : State) (n : ℕ) (buffer : List ℤ) → long_enough buffer ≡ false → budget_with m P s n buffer ≡ record { state = s; answer = Answer.Refused 13 0; steps = 0 }
unfolding budget_with
short m P s n buffer k = ap outcome k
  where
    outcome : Bool → Ran
    outcome b = elim b [ true ↦ budget_in_with m P s n s.status | false ↦ record { state = s; answer = Answer.Refused 13 0; steps = 0 } ]

refused-buffer : (r : Ran) (buffer : List ℤ) (q o : ℕ) → r.answer ≡ Answer.Refused q o → buffer_of r buffer ≡ buffer
unfolding buffer_of written over
refused-buffer r buffer q o e = ap (λ (a : Answer). over (written r.state.result a) buffer) e

-- no steps
none_after : (P : Program) (s : State) → (stopped_by s).state ≡ stopped_after P s 0
unfolding budget_in_to run_from_to
none_after P s = ap (λ (t : State). (stopped_by t).state) (go s.status)
  where
    go : (st : Status) → s ≡ (budget_in P s 0 st).state
    go Status.Running = refl
    go (Status.Ended e) = refl

-- without a pool a run that has ended stays
handled-single : (r : Run) (e : End) → r.state.status ≡ Status.Ended e → (handle single r).run ≡ r
unfolding handle_to step_of_to step_in_to
handled-single r e h = ap (λ (st : Status). in_state r (step_in (program_in r) r.state st).state) h

handled-budget : (n : ℕ) (buffer : List ℤ) (r : Run) (e : End) → r.state.status ≡ Status.Ended e → (handle (budget n buffer) r).run ≡ r
unfolding handle_to budget_of_to budget_in_to
handled-budget n buffer r e h = go (long_enough buffer) r.state.status h
  where
    outcome : Bool → Status → Ran
    outcome b st = elim b [ true ↦ budget_in (program_in r) r.state n st | false ↦ record { state = r.state; answer = Answer.Refused 13 0; steps = 0 } ]

    go : (b : Bool) (st : Status) → st ≡ Status.Ended e → in_state r (outcome b st).state ≡ r
    go true Status.Running q = let z : ◌≡◌ {A = ℕ} 0 1 = cc in absurd (omega arith)
    go true (Status.Ended x) q = refl
    go false st q = refl

module _ (p : Pool) (i : ℕ) (passes : refuses21 p i ≡ false) where
  -- ---- a start

  module _ (pre : List Ask) (image : List ℕ) (level f v : ℕ) (words buffer : List ℤ) where
    abbrev a : Ask
    a = start image level f v words buffer

    abbrev first : Begun
    first = begin_of image level f v words buffer

    -- what it comes to without a pool
    begun-alone : (y : Option Run) (e : Grant) → first.entry ≡ e → (ask_alone a y).run ≡ started_run image first.state y e
    unfolding ask_alone
    begun-alone y e d = ap (started_run image first.state y) d

    begun-next : (q : Pace) (o : Option Run) → Rel pre q o → (e : Grant) → first.entry ≡ e → let y = pool_begun_as p i first e in y.begun.entry ≡ e → Next pre q a (began e) (began e) (started_run image y.begun.state o e)
    unfolding pool_begun_as started_run started_in Rel run_alone
    begun-next (in_step y) o t (Err why) d g = record { pace = in_step (ask_alone a y).run; rel = (t.0 ∙ sym (begun-alone y (Err (denied why.question why.at)) d), alone-next pre a y t.1); link = λ l hs gs b. same y a (began (Err (denied why.question why.at))) l hs gs b }
    begun-next (stopped r) o t (Err why) d g = record { pace = stopped r; rel = (t.0, t.1, grow pre a r r t.2 (begun-alone (some r) (Err (denied why.question why.at)) d) refl); link = λ l hs gs b. refused_start r image level f v words buffer why.question why.at l hs gs b }
    begun-next q o rel (Ok _) d g = go (leb (vectors_in first.state) (allowed p i))
      where
        its : Run
        its = record { image = image; state = first.state }

        fits : (q : Pace) → Rel pre q o → Next pre q a (began (Ok tt)) (began (Ok tt)) (some its)
        fits (in_step y) (oo, xx) = record { pace = in_step (ask_alone a y).run; rel = (sym (begun-alone y (Ok tt) d), alone-next pre a y xx); link = λ l hs gs b. same y a (began (Ok tt)) l hs gs b }
        fits (stopped r) (oo, h, st) = record { pace = in_step (some its); rel = (refl, alone-snoc pre a none ∙ begun-alone (run_alone pre none) (Ok tt) d); link = λ l hs gs b. anew r image level f v words buffer l hs gs b }

        full : Run
        full = record { image = image; state = overfull first.state }

        go : (b : Bool) → Next pre q a (began (Ok tt)) (began (Ok tt)) (some (record { image = image; state = cond b first.state (overfull first.state) }))
        go true = fits q rel
        go false = record { pace = stopped full; rel = (refl, overfull-status first.state, at_start pre image level f v words buffer [] refl d refl refl); link = λ l hs gs b. at_once image level f v words buffer q l hs gs b }

    -- a start has the same entry
    same-entry : (e : Grant) → first.entry ≡ e → (pool_begun_as p i first e).begun.entry ≡ e
    unfolding pool_begun_as
    same-entry (Err why) d = d
    same-entry (Ok _) d = refl

    start-next : (q : Pace) (o x : Option Run) → Rel pre q o → Next pre q a (ask_in p i a o).heard (ask_alone a x).heard (ask_in p i a o).run
    unfolding ask_in ask_alone
    start-next q o x r =
        let e = first.entry in
        let s = (pool_begun_as p i first e).begun.state in
        let g = same-entry e refl in
        subst (λ (y : PoolBegun). Next pre q a (began y.begun.entry) (began e) (started_run image y.begun.state o y.begun.entry)) (sym (begin-is p i passes image level f v words buffer))
        (subst (λ (c : Grant). Next pre q a (began c) (began e) (started_run image s o c)) (sym g) (begun-next q o r e refl g))

  -- ---- in step

  event-next : (pre : List Ask) (e : Event) (r : Run) → run_alone pre none ≡ some r → let a = go_on e in Next pre (in_step (some r)) a (ask_in p i a (some r)).heard (ask_alone a (some r)).heard (ask_in p i a (some r)).run
  unfolding ask_in go_on_in ask_alone handle_to heard_as said_in_pool Budgets Rel run_alone
  event-next pre single r was =
      subst (λ (y : PoolStepped). Next pre (in_step (some r)) (go_on single) (turned y.turn) (turned (said_in_pool own.said)) (some (in_state r y.state))) (sym (step_is p i passes (program_in r) r.state)) (go (step-ways (allowed p i) (program_in r) r.state))
    where
      own : Stepped
      own = step_of (program_in r) r.state

      At : Stepped → Said → Type 0
      At y d = Next pre (in_step (some r)) (go_on single) (turned (said_in_pool y.said)) (turned (said_in_pool d)) (some (in_state r y.state))

      u : Run
      u = in_state r (stopped_by r.state).state

      stop-at : (d : Said) → Comes (Unit {0}) r single (turned (PoolSaid.Ended End.Vectors)) (turned (said_in_pool d)) u.state → At (stopped_by r.state) d
      stop-at d c = record {
        pace = stopped u;
        rel = (refl, stopped-status r.state, inside pre single [] r 0 refl was (none_after (program_in r) r.state) refl);
        link = λ l hs gs b. comes r single (turned (PoolSaid.Ended End.Vectors)) (turned (said_in_pool d)) u.state l hs gs c b;
      }

      go : StepWays (allowed p i) (program_in r) r.state → At (step_with (allowed p i) (program_in r) r.state) own.said
      go (its e) = subst (λ (y : Stepped). At y own.said) (sym e) (next-same pre (go_on single) (some r) was)
      go (stops e d) = subst (λ (y : Stepped). At y own.said) (sym e) (subst (At (stopped_by r.state)) (sym d) (stop-at Said.GoesOn by_single))
      go (nowhere e d) = subst (λ (y : Stepped). At y own.said) (sym e) (subst (At (stopped_by r.state)) (sym d) (stop-at Said.Stuck (single_stuck tt)))
  event-next pre (budget n buffer) r was =
      subst (λ (y : PoolRan). Next pre (in_step (some r)) (go_on (budget n buffer)) (spent y.ran.answer y.ran.steps (buffer_of y.ran buffer)) (spent own.answer own.steps (buffer_of own buffer)) (some (in_state r y.ran.state)))
      (sym (budget-is p i passes (program_in r) r.state n buffer)) (go (budgets (allowed p i) (program_in r) r.state n buffer))
    where
      own : Ran
      own = budget_of (program_in r) r.state n buffer

      theirs : Heard
      theirs = spent own.answer own.steps (buffer_of own buffer)

      At : Ran → Type 0
      At y = Next pre (in_step (some r)) (go_on (budget n buffer)) (spent y.answer y.steps (buffer_of y buffer)) theirs (some (in_state r y.state))

      heard-is : (y : Ran) → y.answer ≡ Answer.Ended End.Vectors → spent y.answer y.steps (buffer_of y buffer) ≡ spent (Answer.Ended End.Vectors) y.steps buffer
      heard-is y a = ap (λ (x : Answer). spent x y.steps (buffer_of y buffer)) a ∙ ap (spent (Answer.Ended End.Vectors) y.steps) (vectors-buffer y buffer a)

      stop-at : (y : Ran) → y.answer ≡ Answer.Ended End.Vectors → y.state ≡ stopped_after (program_in r) r.state y.steps → Comes (Unit {0}) r (budget n buffer) (spent (Answer.Ended End.Vectors) y.steps buffer) theirs (stopped_after (program_in r) r.state y.steps) → At y
      stop-at y a s c = record {
        pace = stopped (in_state r y.state);
        rel = (refl, ap (λ (t : State). t.status) s ∙ stopped-status _, inside pre (budget n buffer) [] r y.steps refl was s refl);
        link = λ l hs gs b. subst (λ (h : Heard). Beside (Unit {0}) (in_step (some r)) (go_on (budget n buffer) ∷ l) (h ∷ hs) (theirs ∷ gs)) (sym (heard-is y a))
            (comes r (budget n buffer) (spent (Answer.Ended End.Vectors) y.steps buffer) theirs y.state l hs gs (subst (Comes (Unit {0}) r (budget n buffer) (spent (Answer.Ended End.Vectors) y.steps buffer) theirs) (sym s) c) b);
      }

      stuck_at : (y : Ran) → own.answer ≡ Answer.Stuck → y.steps ≡ own.steps → Comes (Unit {0}) r (budget n buffer) (spent (Answer.Ended End.Vectors) y.steps buffer) theirs (stopped_after (program_in r) r.state y.steps)
      stuck_at y e k = subst (λ (g : Heard). Comes (Unit {0}) r (budget n buffer) (spent (Answer.Ended End.Vectors) y.steps buffer) g (stopped_after (program_in r) r.state y.steps))
          (sym (ap (λ (x : Answer). spent x own.steps (buffer_of own buffer)) e ∙ ap (λ (j : ℕ). spent Answer.Stuck j (buffer_of own buffer)) (sym k))) (budget_stuck tt n buffer y.steps (buffer_of own buffer))

      mine : Ran
      mine = budget_with (allowed p i) (program_in r) r.state n buffer

      go : InCompany (program_in r) r.state mine own → At mine
      go (same_budget e) = subst At (sym e) (next-same pre (go_on (budget n buffer)) (some r) was)
      go (earlier a k s) = stop-at mine a s (by_budget n buffer mine.steps own.steps own.answer (buffer_of own buffer) k)
      go (before_stuck a e k s) = stop-at mine a s (stuck_at mine e k)
  event-next pre (change new) r was =
      subst (λ (c : Grant). Next pre (in_step (some r)) (go_on (change new)) (changed c) (changed own) (some (record { image = in_force c r.image new; state = r.state }))) (sym (change-is p i passes r.image new r.state)) (next-same pre (go_on (change new)) (some r) was)
    where
      own : Grant
      own = change_of r.image new r.state

  -- ---- once it has stopped

  -- what it says, and the run that it is then
  record Ended (e : Event) (r : Run) : Type 0 where
    says : Heard
    heard : (ask_in p i (go_on e) (some r)).heard ≡ says
    again : Again r e says
    run : (ask_in p i (go_on e) (some r)).run ≡ some (handle e r).run
    stays : (handle e r).run.state ≡ r.state

  ended-event : (e : Event) (r : Run) → r.state.status ≡ Status.Ended End.Vectors → Ended e r
  unfolding ask_in go_on_in said_in_pool handle_to
  ended-event single r h =
      let z : pool_step (program_in r) p i r.state ≡ record { pool = noted p i r.state; state = r.state; turn = PoolSaid.Ended End.Vectors } = step_is p i passes (program_in r) r.state ∙ ap (λ (y : Stepped). record { pool = noted p i y.state; state = y.state; turn = said_in_pool y.said }) (ended-step (allowed p i) (program_in r) r.state End.Vectors h) in
      let k = handled-single r End.Vectors h in
      record { says = turned (PoolSaid.Ended End.Vectors); heard = ap (λ (y : PoolStepped). turned y.turn) z; again = a_single; run = ap (λ (y : PoolStepped). some (in_state r y.state)) z ∙ ap some (sym k); stays = ap (λ (x : Run). x.state) k }
  ended-event (budget n buffer) r h = go (long_enough buffer) refl
    where
      mine : Ran
      mine = budget_with (allowed p i) (program_in r) r.state n buffer

      its : (a : Answer) → mine ≡ record { state = r.state; answer = a; steps = 0 } → buffer_of (record { state = r.state; answer = a; steps = 0 }) buffer ≡ buffer → Again r (budget n buffer) (spent a 0 buffer) → Ended (budget n buffer) r
      its a e k x =
          let z = budget-is p i passes (program_in r) r.state n buffer in
          let j = handled-budget n buffer r End.Vectors h in
          record {
            says = spent a 0 buffer;
            heard = ap (λ (y : PoolRan). spent y.ran.answer y.ran.steps (buffer_of y.ran buffer)) z ∙ ap (λ (y : Ran). spent y.answer y.steps (buffer_of y buffer)) e ∙ ap (spent a 0) k;
            again = x;
            run = ap (λ (y : PoolRan). some (in_state r y.ran.state)) z ∙ ap (λ (y : Ran). some (in_state r y.state)) e ∙ ap some (sym j);
            stays = ap (λ (y : Run). y.state) j;
          }

      go : (b : Bool) → long_enough buffer ≡ b → Ended (budget n buffer) r
      go true k = its (Answer.Ended End.Vectors) (ended-long (allowed p i) (program_in r) r.state n buffer End.Vectors h k) (vectors-buffer _ buffer refl) (a_budget n buffer k)
      go false k = its (Answer.Refused 13 0) (short (allowed p i) (program_in r) r.state n buffer k) (refused-buffer _ buffer 13 0 refl) (a_refusal n buffer k)
  ended-event (change new) r h =
      let z = change-is p i passes r.image new r.state in
      record { says = changed (change_of r.image new r.state); heard = ap changed z; again = a_change new; run = ap (λ (c : Grant). some (record { image = in_force c r.image new; state = r.state })) z; stays = refl }

  stopped-next : (pre : List Ask) (e : Event) (r : Run) (g : Heard) → r.state.status ≡ Status.Ended End.Vectors → Stopped pre r → let a = go_on e in Next pre (stopped r) a (ask_in p i a (some r)).heard g (ask_in p i a (some r)).run
  unfolding Rel ask_alone
  stopped-next pre e r g h st =
      let x = ended-event e r h in
      record {
        pace = stopped (handle e r).run;
        rel = (x.run, ap (λ (s : State). s.status) x.stays ∙ h, grow pre (go_on e) r (handle e r).run st refl x.stays);
        link = λ l hs gs b. subst (λ (k : Heard). Beside (Unit {0}) (stopped r) (go_on e ∷ l) (k ∷ hs) (g ∷ gs)) (sym x.heard) (again r e x.says g l hs gs x.again b);
      }

  ask-next : (pre : List Ask) (q : Pace) (a : Ask) (o x : Option Run) → run_alone pre none ≡ x → Rel pre q o → Next pre q a (ask_in p i a o).heard (ask_alone a x).heard (ask_in p i a o).run
  unfolding ask_in ask_alone Rel
  ask-next pre q (start image level f v words buffer) o x was r = start-next pre image level f v words buffer q o x r
  ask-next pre (in_step y) (go_on e) o x was r = both r
    where
      at : (y : Option Run) → run_alone pre none ≡ y → Next pre (in_step y) (go_on e) (ask_in p i (go_on e) y).heard (ask_alone (go_on e) y).heard (ask_in p i (go_on e) y).run
      at none k = subst (λ (b : Bool). Next pre (in_step none) (go_on e) (cond b (heard21 (go_on e)) nobody) nobody none) (sym passes) (next-same pre (go_on e) none k)
      at (some u) k = event-next pre e u k

      both : Rel pre (in_step y) o → Next pre (in_step y) (go_on e) (ask_in p i (go_on e) o).heard (ask_alone (go_on e) x).heard (ask_in p i (go_on e) o).run
      both (oo, xx) =
          subst (λ (z : Option Run). Next pre (in_step y) (go_on e) (ask_in p i (go_on e) z).heard (ask_alone (go_on e) x).heard (ask_in p i (go_on e) z).run) (sym oo)
          (subst (λ (z : Option Run). Next pre (in_step y) (go_on e) (ask_in p i (go_on e) y).heard (ask_alone (go_on e) z).heard (ask_in p i (go_on e) y).run) (sym xx ∙ was) (at y xx))
  ask-next pre (stopped u) (go_on e) o x was r = both r
    where
      both : Rel pre (stopped u) o → Next pre (stopped u) (go_on e) (ask_in p i (go_on e) o).heard (ask_alone (go_on e) x).heard (ask_in p i (go_on e) o).run
      both (oo, h, st) = subst (λ (z : Option Run). Next pre (stopped u) (go_on e) (ask_in p i (go_on e) z).heard (ask_alone (go_on e) x).heard (ask_in p i (go_on e) z).run) (sym oo) (stopped-next pre e u (ask_alone (go_on e) x).heard h st)

-- ---- lists

module _ (reserves : List ℕ) (fits : over_reserved reserves ≡ false) (i : ℕ) (l : i < RUNS) where
  company-from : (asks : List Asked) (w : House) → Order reserves w → (pre : List Ask) (q : Pace) (x : Option Run) → run_alone pre none ≡ x → Rel pre q (w.runs i) → Beside (Unit {0}) q (asks_under i asks) (heard_under i asks w) (heard_alone (asks_under i asks) x)
  unfolding heard_under asks_under heard_alone
  company-from [] w o pre q x was r = end q
  company-from (a ∷ asks) w o pre q x was r = go (eqb a.number i) refl (company-from asks (serve a w).house (serve-keeps reserves a w o))
    where
      go : (b : Bool) → eqb a.number i ≡ b
          → ((pre : List Ask) (q : Pace) (x : Option Run) → run_alone pre none ≡ x → Rel pre q ((serve a w).house.runs i) → Beside (Unit {0}) q (asks_under i asks) (heard_under i asks (serve a w).house) (heard_alone (asks_under i asks) x))
          → Beside (Unit {0}) q (elim b [ true ↦ a.ask ∷ asks_under i asks | false ↦ asks_under i asks ]) (elim b [ true ↦ (serve a w).heard ∷ heard_under i asks (serve a w).house | false ↦ heard_under i asks (serve a w).house ]) (heard_alone (elim b [ true ↦ a.ask ∷ asks_under i asks | false ↦ asks_under i asks ]) x)
      go true e ih =
          let n = eqb-true a.number i e in
          let y = ask-next w.pool i (none-refused reserves w fits o i l) pre q a.ask (w.runs i) x was r in
          subst (λ (h : Heard). Beside (Unit {0}) q (a.ask ∷ asks_under i asks) (h ∷ heard_under i asks (serve a w).house) (heard_alone (a.ask ∷ asks_under i asks) x)) (sym (heard-at a w i n))
          (y.link (asks_under i asks) (heard_under i asks (serve a w).house) (heard_alone (asks_under i asks) (ask_alone a.ask x).run)
          (ih (pre ++ (a.ask ∷ [])) y.pace (ask_alone a.ask x).run (alone-next pre a.ask x was) (subst (Rel (pre ++ (a.ask ∷ [])) y.pace) (sym (runs-at a w i n)) y.rel)))
      go false e ih = ih pre q x was (subst (Rel pre q) (sym (runs_other a w i e)) r)

  -- where the two runs are after a list
  runs-from : (asks : List Asked) (w : House) → Order reserves w → (pre : List Ask) (q : Pace) → Rel pre q (w.runs i) → (p : Pace) × Rel (pre ++ asks_under i asks) p ((house_after asks w).runs i)
  unfolding house_after asks_under
  runs-from [] w o pre q r = (q, subst (λ (k : List Ask). Rel k q (w.runs i)) (sym (append-nil pre)) r)
  runs-from (a ∷ asks) w o pre q r = go (eqb a.number i) refl (runs-from asks (serve a w).house (serve-keeps reserves a w o))
    where
      go : (b : Bool) → eqb a.number i ≡ b → ((pre : List Ask) (q : Pace) → Rel pre q ((serve a w).house.runs i) → (p : Pace) × Rel (pre ++ asks_under i asks) p ((house_after asks (serve a w).house).runs i))
          → (p : Pace) × Rel (pre ++ (elim b [ true ↦ a.ask ∷ asks_under i asks | false ↦ asks_under i asks ])) p ((house_after asks (serve a w).house).runs i)
      go true e ih =
          let n = eqb-true a.number i e in
          let y = ask-next w.pool i (none-refused reserves w fits o i l) pre q a.ask (w.runs i) (run_alone pre none) refl r in
          let z = ih (pre ++ (a.ask ∷ [])) y.pace (subst (Rel (pre ++ (a.ask ∷ [])) y.pace) (sym (runs-at a w i n)) y.rel) in
          (z.0, subst (λ (k : List Ask). Rel k z.0 ((house_after asks (serve a w).house).runs i)) (append_assoc pre (a.ask ∷ []) (asks_under i asks)) z.1)
      go false e ih = ih pre q (subst (Rel pre q) (sym (runs_other a w i e)) r)

-- THE LAW: under every number
pub company : Company
unfolding CompanyBut Rel run_alone
company reserves n e asks i l = company-from reserves e i l asks (opened (fresh reserves)) (opened-order reserves n e) [] (in_step none) none refl (refl, refl)

-- THE LAW: and the run
pub same_runs : SameRuns
unfolding SameRuns Rel run_alone
same_runs reserves n e asks i l = go (runs-from reserves e i l asks (opened (fresh reserves)) (opened-order reserves n e) [] (in_step none) (refl, refl))
  where
    o : Option Run
    o = (house_after asks (opened (fresh reserves))).runs i

    go : (p : Pace) × Rel (asks_under i asks) p o → (o ≡ run_alone (asks_under i asks) none) ⊎ ((r : Run) × (o ≡ some r) × (r.state.status ≡ Status.Ended End.Vectors) × Stopped (asks_under i asks) r)
    go (in_step y, h) = inl (h.0 ∙ sym h.1)
    go (stopped r, h) = inr (r, h.0, h.1, h.2)
