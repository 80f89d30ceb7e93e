-- The store of 64 vectors: what eight runs have never exceeds it.
use Rattle.std.specs.Prelude.{Err, Ok}
use mathlib.Core.Path.{◌≡◌, refl, sym, ap, ap₂, ◌∙◌, subst}
use mathlib.Core.Logic.{◌≢◌}
use mathlib.Core.List.{List, [], ◌∷◌}
use mathlib.Core.Option.{Option, none, some}
use mathlib.Core.Bool.{Bool, true, false, cond, true≢false, ◌||◌}
use Prim.Native.Nat.{ℕ, zero, suc, ◌+◌, ◌≤◌, ◌<◌}
use native.Mathlib.Decide.{ℕ_discrete}
use native.Mathlib.Omega.{arith}
use lib.IntN.{ℤ}
use lib.ListN.{length, get_or, set, replicate}
use lib.Seq.{get_or-set_same, get_or-set_other}
use lib.Dec.{leb}
use borrow.Author.Tests.{leb-true, leb-false, ltb-false, lt-leb, ne_eqb, eq-eqb}
use Rattle.rules.proofs.Follows.{or-neither}
use Rattle.program.specs.Program.{Program}
use Rattle.machine.specs.States.{VECTORS, with_end}
use Rattle.machine.specs.Begin.{begin_of, refused}
use Rattle.machine.specs.Runs.{continued, long_enough}
use Rattle.machine.specs.Events.{Run, Event, single, budget, change, program_in, in_state}
use Rattle.machine.specs.Allowed.{vectors_in, step_in_with, step_with, run_with, budget_in_with, budget_with}
use Rattle.machine.specs.Pools.{RUNS, sum, unused, allowed, over_reserved, refuses21, fresh, has_in, noted, said_in_pool, PoolStepped, pool_step, PoolRan, noted_after, pool_budget, overfull, started_in, PoolBegun, pool_begun_as, pool_begin}
use Rattle.machine.specs.Houses.{Ask, start, go_on, Asked, started_run, go_on_in, ask_in, House, opened, placed, serve, house_after}
use Rattle.machine.specs.declared.Answer.{Answer}
use Rattle.machine.specs.declared.Begun.{Begun}
use Rattle.machine.specs.declared.End.{End}
use Rattle.machine.specs.declared.Pool.{Pool}
use Rattle.machine.specs.declared.Ran.{Ran}
use Rattle.machine.specs.declared.Said.{Said}
use Rattle.machine.specs.declared.State.{State}
use Rattle.machine.specs.declared.Status.{Status}
use Rattle.machine.specs.declared.Stepped.{Stepped}
use Rattle.machine.specs.declared.PoolSaid.{PoolSaid}
use Rattle.runs.specs.Stores.{has_of, goes_on, lives, Housed, Stores}
use Rattle.runs.proofs.Caps.{step_count, budget-count}
use Rattle.runs.proofs.Reserves.{reserve-in, Ordered, in-allowed, most-allowed, reserved-64, set-ordered, unused-at}
use Rattle.machine.specs.Denials.{Grant, denied}

-- ---- a house in order

pub record Order (reserves : List ℕ) (w : House) : Type 0 where
  pooled : Ordered w.pool
  fixed : w.pool.reserves ≡ reserves
  eight : (i : ℕ) → RUNS ≤ i → w.runs i ≡ none
  known : (i : ℕ) → i < RUNS → get_or w.pool.has i 0 ≡ has_of (w.runs i)

has-most : (s : State) (st : Status) → has_in s st ≤ vectors_in s
unfolding has_in
has-most s Status.Running = omega arith
has-most s (Status.Ended e) = omega arith

pub placed_same : (runs : ℕ → Option Run) (i : ℕ) (o : Option Run) → placed runs i o i ≡ o
unfolding placed
placed_same runs i o = rw (eq-eqb i i refl) refl

pub placed-other : (runs : ℕ → Option Run) (i j : ℕ) (o : Option Run) → j ≢ i → placed runs i o j ≡ runs j
unfolding placed
placed-other runs i j o e = rw (ne_eqb j i e) refl

-- ended: it has none
ended-none : (s : State) (e : End) → s.status ≡ Status.Ended e → (n : ℕ) → has_in s s.status ≤ n
unfolding has_in
ended-none s e q n = let k : has_in s s.status ≡ 0 = ap (has_in s) q in omega (arith, k)

overfull-none : (s : State) (n : ℕ) → has_in (overfull s) (overfull s).status ≤ n
unfolding with_end has_in
overfull-none s n = omega arith

ended-step : (n : ℕ) (P : Program) (s : State) (e : End) → s.status ≡ Status.Ended e → (step_with n P s).state ≡ s
unfolding step_with step_in_with
ended-step n P s e h = ap (λ (st : Status). (step_in_with n P s st).state) h

ended-budget : (m : ℕ) (P : Program) (s : State) (n : ℕ) (buffer : List ℤ) (e : End) → s.status ≡ Status.Ended e → (budget_with m P s n buffer).state ≡ s
unfolding budget_with budget_in_with
ended-budget m P s n buffer e h = go (long_enough buffer) s.status h
  where
    outcome : Bool → Status → Ran
    outcome b st = elim b [ true ↦ budget_in_with m P s n st | false ↦ record { state = s; answer = Answer.Refused 13 0; steps = 0 } ]

    go : (b : Bool) (st : Status) → st ≡ Status.Ended e → (outcome b st).state ≡ s
    go true Status.Running q = let z : ◌≡◌ {A = ℕ} 0 1 = cc in absurd (omega arith)
    go true (Status.Ended x) q = refl
    go false st q = refl

-- a refusal of a budget is that by 13, which leaves the state
continued-told : (s : State) (d : Said) (n : ℕ) (more : State → Ran) (q p : ℕ) → ((t : State) → (more t).answer ≡ Answer.Refused q p → ⊥) → (continued s d n more).answer ≡ Answer.Refused q p → ⊥
unfolding continued
continued-told s Said.GoesOn n more q p ih h = ih s h
continued-told s (Said.Ended e) n more q p ih h = let z : ◌≡◌ {A = ℕ} 0 1 = cc in omega arith
continued-told s Said.Stuck n more q p ih h = let z : ◌≡◌ {A = ℕ} 0 1 = cc in omega arith

run-told : (m : ℕ) (P : Program) (k : ℕ) (s : State) (n q p : ℕ) → (run_with m P k s n).answer ≡ Answer.Refused q p → ⊥
unfolding run_with
run-told m P zero s n q p h = let z : ◌≡◌ {A = ℕ} 0 1 = cc in omega arith
run-told m P (suc k) s n q p h = continued-told (step_with m P s).state (step_with m P s).said n (λ t. run_with m P k t (n + 1)) q p (λ t. run-told m P k t (n + 1) q p) h

pub refused-same : (m : ℕ) (P : Program) (s : State) (n : ℕ) (buffer : List ℤ) (q p : ℕ) → (budget_with m P s n buffer).answer ≡ Answer.Refused q p → (budget_with m P s n buffer).state ≡ s
unfolding budget_with budget_in_with
refused-same m P s n buffer q p h = go (long_enough buffer) s.status h
  where
    outcome : Bool → Status → Ran
    outcome b st = elim b [ true ↦ budget_in_with m P s n st | false ↦ record { state = s; answer = Answer.Refused 13 0; steps = 0 } ]

    go : (b : Bool) (st : Status) → (outcome b st).answer ≡ Answer.Refused q p → (outcome b st).state ≡ s
    go true Status.Running e = absurd (run-told m P n s 0 q p e)
    go true (Status.Ended x) e = refl
    go false st e = refl

-- a number that 21 does not refuse
pub number_in : (p : Pool) (i : ℕ) → refuses21 p i ≡ false → i < RUNS
unfolding refuses21
number_in p i e = leb-false RUNS i (or-neither (over_reserved p.reserves) (leb RUNS i) e).1

none-some : (r : Run) → none ≡ some r → ⊥
none-some r e = let z : ◌≡◌ {A = ℕ} 0 1 = cc in omega arith

module _ (reserves : List ℕ) (w : House) (o : Order reserves w) (i : ℕ) where
  -- the house with the pool p, and x under the number i
  abbrev Keeps : Pool → Option Run → Type 0
  Keeps p x = Order reserves (record { pool = p; runs = placed w.runs i x })

  -- the pool notes what a run under i has come to
  noted-keeps : (r : Run) → i < RUNS → has_in r.state r.state.status ≤ allowed w.pool i → Keeps (noted w.pool i r.state) (some r)
  unfolding noted has_of
  noted-keeps r l q = record { pooled = set-ordered w.pool o.pooled i l _ q; fixed = o.fixed; eight = λ j m. placed-other w.runs i j (some r) (λ e. absurd (omega (arith, e, l, m))) ∙ o.eight j m; known = λ j m. go j m (ℕ_discrete j i) }
    where
      x : ℕ
      x = has_in r.state r.state.status

      go : (j : ℕ) → j < RUNS → Dec (j ≡ i) → get_or (set w.pool.has i x) j 0 ≡ has_of (placed w.runs i (some r) j)
      go j m (yes e) = rw (e, placed_same w.runs i (some r)) (get_or-set_same w.pool.has i x 0 (omega (arith, l, o.pooled.counted)))
      go j m (no e) = get_or-set_other w.pool.has i j x 0 e ∙ o.known j m ∙ ap has_of (sym (placed-other w.runs i j (some r) e))

  -- what has what it had
  kept-keeps : (x : Option Run) → has_of x ≡ has_of (w.runs i) → (RUNS ≤ i → x ≡ none) → Keeps w.pool x
  kept-keeps x same out = record { pooled = o.pooled; fixed = o.fixed; eight = λ j m. outside j m (ℕ_discrete j i); known = λ j m. inner j m (ℕ_discrete j i) }
    where
      outside : (j : ℕ) → RUNS ≤ j → Dec (j ≡ i) → placed w.runs i x j ≡ none
      outside j m (yes e) = rw (e, placed_same w.runs i x) (out (omega (arith, e, m)))
      outside j m (no e) = placed-other w.runs i j x e ∙ o.eight j m

      inner : (j : ℕ) → j < RUNS → Dec (j ≡ i) → get_or w.pool.has j 0 ≡ has_of (placed w.runs i x j)
      inner j m (yes e) = rw (e, placed_same w.runs i x) ((rw e at (o.known j m)) ∙ sym same)
      inner j m (no e) = o.known j m ∙ ap has_of (sym (placed-other w.runs i j x e))

  -- all as it was
  self-keeps : Keeps w.pool (w.runs i)
  self-keeps = kept-keeps (w.runs i) refl (o.eight i)

  -- the run r, in the state that it was in
  state-keeps : (r r' : Run) → w.runs i ≡ some r → r'.state ≡ r.state → Keeps w.pool (some r')
  unfolding has_of
  state-keeps r r' is e = kept-keeps (some r') (ap (λ (s : State). has_in s s.status) e ∙ ap has_of (sym is)) (λ m. absurd (none-some r (sym (o.eight i m) ∙ is)))

  -- a run that goes on has what the pool says, so it may have it
  running-in : (r : Run) → i < RUNS → w.runs i ≡ some r → r.state.status ≡ Status.Running → vectors_in r.state ≤ allowed w.pool i
  unfolding has_of has_in
  running-in r l is run =
      let k : get_or w.pool.has i 0 ≡ vectors_in r.state = o.known i l ∙ ap has_of is ∙ ap (has_in r.state) run in
      omega (arith, k, in-allowed w.pool o.pooled i l)

  -- ---- what a step, a budget and a start come to

  fits : (r : Run) (t : State) → i < RUNS → w.runs i ≡ some r → (vectors_in r.state ≤ allowed w.pool i → vectors_in t ≤ allowed w.pool i) → ((e : End) → r.state.status ≡ Status.Ended e → t ≡ r.state) → has_in t t.status ≤ allowed w.pool i
  fits r t l is f g = go r.state.status refl
    where
      go : (st : Status) → r.state.status ≡ st → has_in t t.status ≤ allowed w.pool i
      go Status.Running q = omega (arith, has-most t t.status, f (running-in r l is q))
      go (Status.Ended e) q = ended-none t e (ap (λ (s : State). s.status) (g e q) ∙ q) (allowed w.pool i)

  step_keeps : (r : Run) → w.runs i ≡ some r → let x = pool_step (program_in r) w.pool i r.state in Keeps x.pool (some (in_state r x.state))
  unfolding pool_step
  step_keeps r is = go (refuses21 w.pool i) refl
    where
      t : Stepped
      t = step_with (allowed w.pool i) (program_in r) r.state

      outcome : Bool → PoolStepped
      outcome b = elim b [ true ↦ record { pool = w.pool; state = r.state; turn = PoolSaid.Refused 21 0 } | false ↦ record { pool = noted w.pool i t.state; state = t.state; turn = said_in_pool t.said } ]

      go : (b : Bool) → refuses21 w.pool i ≡ b → Keeps (outcome b).pool (some (in_state r (outcome b).state))
      go true e = state-keeps r (in_state r r.state) is refl
      go false e = let l = number_in w.pool i e in noted-keeps (in_state r t.state) l (fits r t.state l is (λ q. step_count (allowed w.pool i) (program_in r) r.state q) (λ x q. ended-step (allowed w.pool i) (program_in r) r.state x q))

  budget-keeps : (n : ℕ) (buffer : List ℤ) (r : Run) → w.runs i ≡ some r → let x = pool_budget (program_in r) w.pool i r.state n buffer in Keeps x.pool (some (in_state r x.ran.state))
  unfolding pool_budget noted_after
  budget-keeps n buffer r is = go (refuses21 w.pool i) refl
    where
      m : ℕ
      m = allowed w.pool i

      b : Ran
      b = budget_with m (program_in r) r.state n buffer

      outcome : Bool → PoolRan
      outcome x = elim x [ true ↦ record { pool = w.pool; ran = record { state = r.state; answer = Answer.Refused 21 0; steps = 0 } } | false ↦ record { pool = noted_after w.pool i b b.answer; ran = b } ]

      came : i < RUNS → Keeps (noted w.pool i b.state) (some (in_state r b.state))
      came l = noted-keeps (in_state r b.state) l (fits r b.state l is (λ q. budget-count m (program_in r) r.state n buffer q) (λ x q. ended-budget m (program_in r) r.state n buffer x q))

      after : (a : Answer) → b.answer ≡ a → i < RUNS → Keeps (noted_after w.pool i b a) (some (in_state r b.state))
      after (Answer.Refused q p) e l = state-keeps r (in_state r b.state) is (refused-same m (program_in r) r.state n buffer q p e)
      after Answer.Steps e l = came l
      after (Answer.Ended x) e l = came l
      after Answer.Stuck e l = came l

      go : (x : Bool) → refuses21 w.pool i ≡ x → Keeps (outcome x).pool (some (in_state r (outcome x).ran.state))
      go true e = state-keeps r (in_state r r.state) is refl
      go false e = after b.answer refl (number_in w.pool i e)

  event-keeps : (e : Event) (r : Run) → w.runs i ≡ some r → let x = go_on_in w.pool i e r in Keeps x.pool x.run
  unfolding go_on_in
  event-keeps single r is = step_keeps r is
  event-keeps (budget n buffer) r is = budget-keeps n buffer r is
  event-keeps (change new) r is = state-keeps r _ is refl

  -- ---- a start

  started-fits : (s : State) → has_in (started_in w.pool i s) (started_in w.pool i s).status ≤ allowed w.pool i
  unfolding started_in
  started-fits s = go (leb (vectors_in s) (allowed w.pool i)) refl
    where
      go : (b : Bool) → leb (vectors_in s) (allowed w.pool i) ≡ b → has_in (cond b s (overfull s)) (cond b s (overfull s)).status ≤ allowed w.pool i
      go true e = omega (arith, has-most s s.status, leb-true (vectors_in s) (allowed w.pool i) e)
      go false e = overfull-none s (allowed w.pool i)

  -- one that is refused leaves all
  refused-keeps : (image : List ℕ) (x : PoolBegun) (e : Grant) (q p : ℕ) → e ≡ Err (denied q p) → x.pool ≡ w.pool → Keeps x.pool (started_run image x.begun.state (w.runs i) e)
  unfolding started_run
  refused-keeps image x (Err why) q p e k = rw k self-keeps
  refused-keeps image x (Ok _) q p e k = let z : ◌≡◌ {A = ℕ} 0 1 = cc in absurd (omega arith)

  begun-keeps : (image : List ℕ) (b : Begun) (e : Grant) → b.entry ≡ e → i < RUNS → let x = pool_begun_as w.pool i b e in Keeps x.pool (started_run image x.begun.state (w.runs i) x.begun.entry)
  unfolding pool_begun_as started_run
  begun-keeps image b (Err why) d l = refused-keeps image (record { pool = w.pool; begun = b }) b.entry why.question why.at d refl
  begun-keeps image b (Ok _) d l = noted-keeps (record { image = image; state = started_in w.pool i b.state }) l (started-fits b.state)

  start-keeps : (image : List ℕ) (level f v : ℕ) (words buffer : List ℤ) → let x = pool_begin image level f v words buffer w.pool i in Keeps x.pool (started_run image x.begun.state (w.runs i) x.begun.entry)
  unfolding pool_begin refused
  start-keeps image level f v words buffer = go (refuses21 w.pool i) refl
    where
      b : Begun
      b = begin_of image level f v words buffer

      outcome : Bool → PoolBegun
      outcome x = elim x [ true ↦ record { pool = w.pool; begun = refused 21 0 } | false ↦ pool_begun_as w.pool i b b.entry ]

      go : (x : Bool) → refuses21 w.pool i ≡ x → Keeps (outcome x).pool (started_run image (outcome x).begun.state (w.runs i) (outcome x).begun.entry)
      go true e = refused-keeps image (outcome true) (Err (denied 21 0)) 21 0 refl refl
      go false e = begun-keeps image b b.entry refl (number_in w.pool i e)

  ask-keeps : (a : Ask) (x : Option Run) → w.runs i ≡ x → let y = ask_in w.pool i a x in Keeps y.pool y.run
  unfolding ask_in
  ask-keeps (start image level f v words buffer) x e = subst (λ (z : Option Run). let y = pool_begin image level f v words buffer w.pool i in Keeps y.pool (started_run image y.begun.state z y.begun.entry)) e (start-keeps image level f v words buffer)
  ask-keeps (go_on v) none e = subst (λ (z : Option Run). Keeps w.pool z) e self-keeps
  ask-keeps (go_on v) (some r) e = event-keeps v r e

-- ---- lists

pub serve-keeps : (reserves : List ℕ) (a : Asked) (w : House) → Order reserves w → Order reserves (serve a w).house
unfolding serve
serve-keeps reserves a w o = ask-keeps reserves w o a.number a.ask (w.runs a.number) refl

pub house-keeps : (reserves : List ℕ) (l : List Asked) (w : House) → Order reserves w → Order reserves (house_after l w)
unfolding house_after
house-keeps reserves [] w o = o
house-keeps reserves (a ∷ l) w o = house-keeps reserves l (serve a w).house (serve-keeps reserves a w o)

-- ---- a pool just made

zeros-sum : (n : ℕ) → sum (replicate n 0) ≡ 0
unfolding sum
zeros-sum zero = refl
zeros-sum (suc n) = omega (arith, zeros-sum n)

zeros-unused : (rs : List ℕ) (n : ℕ) → sum (unused rs (replicate n 0)) ≡ sum rs
unfolding sum unused
zeros-unused [] n = refl
zeros-unused (r ∷ rs) zero = omega (arith, zeros-unused rs zero)
zeros-unused (r ∷ rs) (suc n) = omega (arith, zeros-unused rs n)

pub zeros-at : (n i : ℕ) → ◌≡◌ {A = ℕ} (get_or (replicate n 0) i 0) 0
zeros-at zero i = refl
zeros-at (suc n) zero = refl
zeros-at (suc n) (suc i) = zeros-at n i

length-zeros : (n : ℕ) → length {A = ℕ} (replicate n 0) ≡ n
length-zeros zero = refl
length-zeros (suc n) = ap suc (length-zeros n)

pub opened-order : (reserves : List ℕ) → length reserves ≡ RUNS → over_reserved reserves ≡ false → Order reserves (opened (fresh reserves))
unfolding over_reserved has_of
opened-order reserves l e = record {
  pooled = record { reserved = l; counted = length-zeros RUNS; whole = omega (arith, zeros-sum RUNS, zeros-unused reserves RUNS, ltb-false VECTORS (sum reserves) e) };
  fixed = refl;
  eight = λ i m. refl;
  known = λ i m. zeros-at RUNS i;
}

-- ---- the claim

-- no vectors without a live run
none-lives : (x : Option Run) → lives x ≡ false → has_of x ≡ 0
unfolding lives has_of goes_on has_in
none-lives none h = refl
none-lives (some r) h = go r.state.status h
  where
    go : (st : Status) → goes_on st ≡ false → has_in r.state st ≡ 0
    go Status.Running q = absurd (true≢false q)
    go (Status.Ended e) q = refl

pub order-housed : (reserves : List ℕ) (w : House) → Order reserves w → Housed reserves w
order-housed reserves w o = record {
  fixed = o.fixed;
  eight = o.eight;
  known = o.known;
  store = omega (arith, o.pooled.whole);
  held = o.pooled.whole;
  inside = λ i m. in-allowed w.pool o.pooled i m;
  reserve = λ i. reserve-in w.pool i;
  bounded = λ i m. most-allowed w.pool o.pooled i m;
  waiting = λ i m h.
      let u = unused-at i w.pool.reserves w.pool.has (omega (arith, o.pooled.reserved, o.pooled.counted)) (omega (arith, o.pooled.reserved, m)) in
      let z = o.known i m in
      let n = none-lives (w.runs i) h in
      omega (arith, u, z, n);
}

-- THE LAW: after every list
pub stores : Stores
unfolding Stores
stores reserves l e asks = order-housed reserves _ (house-keeps reserves asks (opened (fresh reserves)) (opened-order reserves l e))

-- a number with the reserve 64 may have 64
pub may-64 : (reserves : List ℕ) (w : House) → Order reserves w → (i : ℕ) → i < RUNS → get_or reserves i 0 ≡ VECTORS → allowed w.pool i ≡ VECTORS
may-64 reserves w o i l e = reserved-64 w.pool o.pooled i l (ap (λ (rs : List ℕ). get_or rs i 0) o.fixed ∙ e)

-- 21 refuses no number up to 7
pub none-refused : (reserves : List ℕ) (w : House) → over_reserved reserves ≡ false → Order reserves w → (i : ℕ) → i < RUNS → refuses21 w.pool i ≡ false
unfolding refuses21
none-refused reserves w e o i l = ap₂ ◌||◌ (ap over_reserved o.fixed ∙ e) (lt-leb RUNS i l)
