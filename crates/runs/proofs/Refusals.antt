-- In the pool 21 comes before all else, a refusal leaves pool and runs, and a start that needs more than it may have stops at once.
use Rattle.std.specs.Prelude.{Err, Ok}
use mathlib.Core.Path.{◌≡◌, refl, sym, ap, ◌∙◌}
use mathlib.Core.List.{List}
use mathlib.Core.Option.{Option, none, some}
use mathlib.Core.Bool.{Bool, true, false, cond, false≢true}
use Prim.Native.Nat.{ℕ, ◌≤◌, ◌<◌}
use native.Mathlib.Decide.{ℕ_discrete}
use native.Mathlib.Omega.{arith}
use lib.IntN.{ℤ}
use borrow.Author.Tests.{le-leb, lt-leb, ltb-true}
use Rattle.program.specs.Program.{Program}
use Rattle.machine.specs.States.{VECTORS, over, with_stack, with_end}
use Rattle.machine.specs.Calls.{closed}
use Rattle.machine.specs.Runs.{written, buffer_of}
use Rattle.machine.specs.Begin.{begin_of, refused}
use Rattle.machine.specs.Changes.{change_of}
use Rattle.machine.specs.Events.{Run, single, budget, change, program_in, in_state, in_force}
use Rattle.machine.specs.Trails.{back_by, back_of}
use Rattle.machine.specs.Allowed.{vectors_in, step_with, budget_with}
use Rattle.machine.specs.Pools.{RUNS, sum, allowed, over_reserved, refuses21, fresh, PoolMade, make_of, said_in_pool, PoolStepped, pool_step, noted, noted_after, PoolRan, pool_budget, pool_change, overfull, pool_back, started_in, PoolBegun, pool_begun_as, pool_begin}
use Rattle.machine.specs.Houses.{Ask, start, go_on, Asked, began, turned, spent, changed, nobody, heard21, started_run, go_on_in, ask_in, House, opened, placed, serve, house_after}
use Rattle.machine.specs.declared.Answer.{Answer}
use Rattle.machine.specs.declared.Begun.{Begun}
use Rattle.machine.specs.declared.End.{End}
use Rattle.machine.specs.declared.Pool.{Pool}
use Rattle.machine.specs.declared.Ran.{Ran}
use Rattle.machine.specs.declared.Said.{Said}
use Rattle.machine.specs.declared.State.{State}
use Rattle.machine.specs.declared.Status.{Status}
use Rattle.machine.specs.declared.PoolSaid.{PoolSaid}
use Rattle.runs.specs.Company.{is_refusal, Refusals, Overfulls, Fits, Makings, NoneBehind}
use Rattle.runs.proofs.Company.{step_is, budget-is, begin-is, ended-long}
use Rattle.runs.proofs.Stores.{placed_same, placed-other, refused-same, house-keeps, zeros-at, opened-order, none-refused}
use Rattle.machine.specs.Denials.{denied, Grant}

-- ---- 21

module _ (p : Pool) (i : ℕ) (no21 : refuses21 p i ≡ true) where
  pub step-21 : (P : Program) (s : State) → pool_step P p i s ≡ record { pool = p; state = s; turn = PoolSaid.Refused 21 0 }
  unfolding pool_step
  step-21 P s = ap outcome no21
    where
      outcome : Bool → PoolStepped
      outcome b = elim b [ true ↦ record { pool = p; state = s; turn = PoolSaid.Refused 21 0 } | false ↦ let r = step_with (allowed p i) P s in record { pool = noted p i r.state; state = r.state; turn = said_in_pool r.said } ]

  pub budget-21 : (P : Program) (s : State) (n : ℕ) (buffer : List ℤ) → pool_budget P p i s n buffer ≡ record { pool = p; ran = record { state = s; answer = Answer.Refused 21 0; steps = 0 } }
  unfolding pool_budget
  budget-21 P s n buffer = ap outcome no21
    where
      outcome : Bool → PoolRan
      outcome b = elim b [ true ↦ record { pool = p; ran = record { state = s; answer = Answer.Refused 21 0; steps = 0 } } | false ↦ let r = budget_with (allowed p i) P s n buffer in record { pool = noted_after p i r r.answer; ran = r } ]

  pub change-21 : (old new : List ℕ) (s : State) → pool_change p i old new s ≡ Err (denied 21 0)
  unfolding pool_change
  change-21 old new s = ap outcome no21
    where
      outcome : Bool → Grant
      outcome b = elim b [ true ↦ Err (denied 21 0) | false ↦ change_of old new s ]

  pub begin-21 : (image : List ℕ) (level f v : ℕ) (words buffer : List ℤ) → pool_begin image level f v words buffer p i ≡ record { pool = p; begun = refused 21 0 }
  unfolding pool_begin
  begin-21 image level f v words buffer = ap outcome no21
    where
      outcome : Bool → PoolBegun
      outcome x = elim x [ true ↦ record { pool = p; begun = refused 21 0 } | false ↦ let b = begin_of image level f v words buffer in pool_begun_as p i b b.entry ]

  -- a refusal writes nothing to the buffer
  buffer-21 : (s : State) (buffer : List ℤ) → buffer_of (record { state = s; answer = Answer.Refused 21 0; steps = 0 }) buffer ≡ buffer
  unfolding buffer_of written over
  buffer-21 s buffer = refl

  pub heard-21 : (a : Ask) (x : Option Run) → (ask_in p i a x).heard ≡ heard21 a
  unfolding ask_in go_on_in heard21 refused
  heard-21 (start image level f v words buffer) x = ap (λ (y : PoolBegun). began y.begun.entry) (begin-21 image level f v words buffer)
  heard-21 (go_on e) none = ap (λ (b : Bool). cond b (heard21 (go_on e)) nobody) no21
  heard-21 (go_on single) (some r) = ap (λ (y : PoolStepped). turned y.turn) (step-21 (program_in r) r.state)
  heard-21 (go_on (budget n buffer)) (some r) = ap (λ (y : PoolRan). spent y.ran.answer y.ran.steps (buffer_of y.ran buffer)) (budget-21 (program_in r) r.state n buffer) ∙ ap (spent (Answer.Refused 21 0) 0) (buffer-21 r.state buffer)
  heard-21 (go_on (change new)) (some r) = ap changed (change-21 r.image new r.state)

-- ---- a refusal leaves all

-- the pool and the run under the number
abbrev Stays : Pool → Option Run → Pool → Option Run → Type 0
Stays p x q y = (q ≡ p) × (y ≡ x)

-- a single step is refused by 21 alone
turn-refused : (d : Said) → is_refusal (turned (said_in_pool d)) ≡ false
unfolding is_refusal said_in_pool
turn-refused Said.GoesOn = refl
turn-refused (Said.Ended e) = refl
turn-refused Said.Stuck = refl

module _ (p : Pool) (i : ℕ) where
  step_stays : (r : Run) → is_refusal (turned (pool_step (program_in r) p i r.state).turn) ≡ true → let x = pool_step (program_in r) p i r.state in Stays p (some r) x.pool (some (in_state r x.state))
  step_stays r h = go (refuses21 p i) refl
    where
      go : (b : Bool) → refuses21 p i ≡ b → let x = pool_step (program_in r) p i r.state in Stays p (some r) x.pool (some (in_state r x.state))
      go true e = let z = step-21 p i e (program_in r) r.state in (ap (λ (y : PoolStepped). y.pool) z, ap (λ (y : PoolStepped). some (in_state r y.state)) z)
      go false e = absurd (false≢true (sym (ap (λ (y : PoolStepped). is_refusal (turned y.turn)) (step_is p i e (program_in r) r.state) ∙ turn-refused (step_with (allowed p i) (program_in r) r.state).said) ∙ h))

  budget-stays : (n : ℕ) (buffer : List ℤ) (r : Run) → let x = pool_budget (program_in r) p i r.state n buffer in is_refusal (spent x.ran.answer x.ran.steps (buffer_of x.ran buffer)) ≡ true → Stays p (some r) x.pool (some (in_state r x.ran.state))
  unfolding is_refusal noted_after
  budget-stays n buffer r h = go (refuses21 p i) refl
    where
      own : Ran
      own = budget_with (allowed p i) (program_in r) r.state n buffer

      answers : (a : Answer) → own.answer ≡ a → is_refusal (spent a own.steps (buffer_of own buffer)) ≡ true → Stays p (some r) (noted_after p i own a) (some (in_state r own.state))
      answers (Answer.Refused q o) e g = (refl, ap (λ (s : State). some (in_state r s)) (refused-same (allowed p i) (program_in r) r.state n buffer q o e))
      answers Answer.Steps e g = absurd (false≢true g)
      answers (Answer.Ended x) e g = absurd (false≢true g)
      answers Answer.Stuck e g = absurd (false≢true g)

      go : (b : Bool) → refuses21 p i ≡ b → let x = pool_budget (program_in r) p i r.state n buffer in Stays p (some r) x.pool (some (in_state r x.ran.state))
      go true e = let z = budget-21 p i e (program_in r) r.state n buffer in (ap (λ (y : PoolRan). y.pool) z, ap (λ (y : PoolRan). some (in_state r y.ran.state)) z)
      go false e =
          let z = budget-is p i e (program_in r) r.state n buffer in
          let g : is_refusal (spent own.answer own.steps (buffer_of own buffer)) ≡ true = sym (ap (λ (y : PoolRan). is_refusal (spent y.ran.answer y.ran.steps (buffer_of y.ran buffer))) z) ∙ h in
          let t = answers own.answer refl g in
          (ap (λ (y : PoolRan). y.pool) z ∙ t.0, ap (λ (y : PoolRan). some (in_state r y.ran.state)) z ∙ t.1)

  change-stays : (new : List ℕ) (r : Run) (c : Grant) → is_refusal (changed c) ≡ true → ◌≡◌ {A = Option Run} (some (record { image = in_force c r.image new; state = r.state })) (some r)
  unfolding is_refusal in_force
  change-stays new r (Ok _) h = absurd (false≢true h)
  change-stays new r (Err why) h = refl

  begun-stays : (image : List ℕ) (x : Option Run) (s : State) (e : Grant) → let y = pool_begun_as p i (record { state = s; entry = e }) e in is_refusal (began y.begun.entry) ≡ true → Stays p x y.pool (started_run image y.begun.state x y.begun.entry)
  unfolding pool_begun_as started_run is_refusal
  begun-stays image x s (Err why) h = (refl, refl)
  begun-stays image x s (Ok _) h = absurd (false≢true h)

  start-stays : (image : List ℕ) (level f v : ℕ) (words buffer : List ℤ) (x : Option Run) → let y = pool_begin image level f v words buffer p i in is_refusal (began y.begun.entry) ≡ true → Stays p x y.pool (started_run image y.begun.state x y.begun.entry)
  unfolding refused started_run
  start-stays image level f v words buffer x h = go (refuses21 p i) refl
    where
      b : Begun
      b = begin_of image level f v words buffer

      run : PoolBegun → Option Run
      run y = started_run image y.begun.state x y.begun.entry

      go : (c : Bool) → refuses21 p i ≡ c → Stays p x (pool_begin image level f v words buffer p i).pool (run (pool_begin image level f v words buffer p i))
      go true e = let z = begin-21 p i e image level f v words buffer in (ap (λ (y : PoolBegun). y.pool) z, ap run z)
      go false e =
          let z = begin-is p i e image level f v words buffer in
          let t = begun-stays image x b.state b.entry (sym (ap (λ (y : PoolBegun). is_refusal (began y.begun.entry)) z) ∙ h) in
          (ap (λ (y : PoolBegun). y.pool) z ∙ t.0, ap run z ∙ t.1)

  ask-stays : (a : Ask) (x : Option Run) → is_refusal (ask_in p i a x).heard ≡ true → Stays p x (ask_in p i a x).pool (ask_in p i a x).run
  unfolding ask_in go_on_in
  ask-stays (start image level f v words buffer) x h = start-stays image level f v words buffer x h
  ask-stays (go_on e) none h = (refl, refl)
  ask-stays (go_on single) (some r) h = step_stays r h
  ask-stays (go_on (budget n buffer)) (some r) h = budget-stays n buffer r h
  ask-stays (go_on (change new)) (some r) h = (refl, change-stays new r (pool_change p i r.image new r.state) h)

-- THE LAW: refusals
pub refusals : Refusals
unfolding serve
refusals = record { first = λ a w e. heard-21 w.pool a.number e a.ask (w.runs a.number); leaves = λ a w h. leave a w h }
  where
    leave : (a : Asked) (w : House) → is_refusal (serve a w).heard ≡ true → ((serve a w).house.pool ≡ w.pool) × ((j : ℕ) → (serve a w).house.runs j ≡ w.runs j)
    leave a w h = (t.0, λ j. at j (ℕ_discrete j a.number))
      where
        i : ℕ
        i = a.number

        t : Stays w.pool (w.runs i) (ask_in w.pool i a.ask (w.runs i)).pool (ask_in w.pool i a.ask (w.runs i)).run
        t = ask-stays w.pool i a.ask (w.runs i) h

        at : (j : ℕ) → Dec (j ≡ i) → placed w.runs i (ask_in w.pool i a.ask (w.runs i)).run j ≡ w.runs j
        at j (yes e) = ap (placed w.runs i (ask_in w.pool i a.ask (w.runs i)).run) e ∙ placed_same w.runs i _ ∙ t.1 ∙ ap w.runs (sym e)
        at j (no e) = placed-other w.runs i j _ e

-- ---- a start that needs more than it may have

overfull-calls : (s : State) → (overfull s).calls ≡ 0
unfolding with_end closed with_stack
overfull-calls s = refl

overfull-ended : (s : State) → (overfull s).status ≡ Status.Ended End.Vectors
unfolding with_end
overfull-ended s = refl

begun-overfull : (p : Pool) (i : ℕ) (s : State) (e : Grant) → e ≡ Ok tt → allowed p i < vectors_in s → (pool_begun_as p i (record { state = s; entry = e }) e).begun ≡ record { state = overfull s; entry = Ok tt }
unfolding pool_begun_as started_in
begun-overfull p i s (Err why) h l = let z : ◌≡◌ {A = ℕ} 0 1 = cc in absurd (omega arith)
begun-overfull p i s (Ok _) h l = ap (λ (b : Bool). record { state = cond b s (overfull s); entry = Ok tt }) (lt-leb (vectors_in s) (allowed p i) l)

-- THE LAW: it stops with VECTORS, whatever its budget
pub overfulls : Overfulls
unfolding Overfulls
overfulls p i image level f v words buffer ok begun l = record {
  entry = ap (λ (x : Begun). x.entry) is;
  no_call = ap (λ (x : Begun). x.state.calls) is ∙ overfull-calls b.state;
  ended = ended;
  budget = λ P q n lent pass long. ap (λ (y : PoolRan). y.ran) (budget-is q i pass P s n lent) ∙ ended-long (allowed q i) P s n lent End.Vectors ended long;
}
  where
    b : Begun
    b = begin_of image level f v words buffer

    s : State
    s = (pool_begin image level f v words buffer p i).begun.state

    is : (pool_begin image level f v words buffer p i).begun ≡ record { state = overfull b.state; entry = Ok tt }
    is = ap (λ (y : PoolBegun). y.begun) (begin-is p i ok image level f v words buffer) ∙ begun-overfull p i b.state b.entry begun l

    ended : s.status ≡ Status.Ended End.Vectors
    ended = ap (λ (x : Begun). x.state.status) is ∙ overfull-ended b.state

-- ---- one that needs no more

begun-fits : (p : Pool) (i : ℕ) (b : Begun) (e : Grant) → b.entry ≡ e → e ≡ Ok tt → vectors_in b.state ≤ allowed p i → pool_begun_as p i b e ≡ record { pool = noted p i b.state; begun = b }
unfolding pool_begun_as started_in
begun-fits p i b (Err why) d h l = let z : ◌≡◌ {A = ℕ} 0 1 = cc in absurd (omega arith)
begun-fits p i b (Ok _) d h l = ap outcome (le-leb (vectors_in b.state) (allowed p i) l) ∙ ap (λ (x : Grant). record { pool = noted p i b.state; begun = record { state = b.state; entry = x } }) (sym d)
  where
    outcome : Bool → PoolBegun
    outcome x = let s = cond x b.state (overfull b.state) in record { pool = noted p i s; begun = record { state = s; entry = Ok tt } }

-- THE LAW: it begins as without a pool
pub fits : Fits
unfolding Fits
fits p i image level f v words buffer ok begun l = begin-is p i ok image level f v words buffer ∙ begun-fits p i (begin_of image level f v words buffer) (begin_of image level f v words buffer).entry refl begun l

-- ---- a pool that is made

-- THE LAW: made, or refused by 21
pub makings : Makings
unfolding make_of over_reserved
makings = record { over = λ reserves p e. ap (outcome reserves p) e; only = λ reserves p q o h. refuses reserves p q o (over_reserved reserves) refl h; ready = λ reserves p e. ap (outcome reserves p) e; empty = λ reserves i. zeros-at RUNS i }
  where
    outcome : List ℕ → Pool → Bool → PoolMade
    outcome reserves p b = elim b [ true ↦ record { pool = p; made = Err (denied 21 0) } | false ↦ record { pool = fresh reserves; made = Ok tt } ]

    refuses : (reserves : List ℕ) (p : Pool) (q o : ℕ) (b : Bool) → over_reserved reserves ≡ b → (outcome reserves p b).made ≡ Err (denied q o) → VECTORS < sum reserves
    refuses reserves p q o true e h = ltb-true VECTORS (sum reserves) e
    refuses reserves p q o false e h = let z : ◌≡◌ {A = ℕ} 0 1 = cc in absurd (omega arith)

-- ---- a step back

-- THE LAW: no step lies behind a state in the pool
pub none-behind : NoneBehind
unfolding pool_back back_of back_by
none-behind = record {
  first = λ p i e. ap outcome e;
  else = λ p i e. ap outcome e;
  always = λ reserves n e l i m. let w = house_after l (opened (fresh reserves)) in ap outcome (none-refused reserves w e (house-keeps reserves l (opened (fresh reserves)) (opened-order reserves n e)) i m);
  trail = λ P s. refl;
}
  where
    outcome : Bool → Grant
    outcome b = elim b [ true ↦ Err (denied 21 0) | false ↦ Err (denied 20 0) ]
