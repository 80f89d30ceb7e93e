-- 02, 10: what a run in the pool has of one without a pool, and what refusals leave. The statements.
use Rattle.std.specs.Prelude.{◌≡◌, ◌≢◌, ◌⊎◌, Bool, true, false, ℕ, ◌≤◌, ◌<◌, ℤ, length, get_or, replicate, Err, Ok}
use mathlib.Core.List.{List, [], ◌∷◌, ◌++◌, map, Memᴰ}
use Rattle.std.proofs.Math.Option.{Option, none, some}
use Rattle.layout.specs.Bounds.{REGISTERS}
use Rattle.program.specs.Program.{Instr, Version, Program}
use Rattle.machine.specs.Try.{got}
use Rattle.machine.specs.States.{VECTORS, free_vector, with_end}
use Rattle.machine.specs.Steps.{Here, here, instruction, position_of}
use Rattle.machine.specs.Runs.{step_of, budget_in, budget_of, long_enough}
use Rattle.machine.specs.Calls.{frame_for}
use Rattle.machine.specs.Begin.{Given, values_of, vectors_of, first_state, begin_of}
use Rattle.machine.specs.Changes.{change_of}
use Rattle.machine.specs.Events.{Run, Event, single, budget, change, program_in, in_state, handle}
use Rattle.machine.specs.Trails.{started, refused20, back_of}
use Rattle.machine.specs.Allowed.{vectors_in, needs_vector, step_with, budget_with}
use Rattle.machine.specs.Pools.{RUNS, sum, gets, allowed, over_reserved, refuses21, fresh, make_of, noted, said_in_pool, pool_budget, pool_back, overfull, pool_begin}
use Rattle.machine.specs.Houses.{Ask, start, go_on, Asked, Heard, began, turned, spent, changed, nobody, heard21}
use Rattle.machine.specs.Houses.{House, opened, serve, house_after, heard_under, asks_under, ask_alone, heard_alone, run_alone, TriedIn, tried_ask, history_under}
use Rattle.machine.specs.declared.Answer.{Answer}
use Rattle.machine.specs.declared.End.{End}
use Rattle.machine.specs.declared.Pool.{Pool}
use Rattle.machine.specs.declared.Ran.{Ran}
use Rattle.machine.specs.declared.Said.{Said}
use Rattle.machine.specs.declared.State.{State}
use Rattle.machine.specs.declared.Status.{Status}
use Rattle.machine.specs.declared.Stepped.{Stepped}
use Rattle.machine.specs.declared.PoolSaid.{PoolSaid}
use Rattle.machine.specs.Denials.{denied}

-- ---- the rule, at a step that needs a vector

-- stopped with VECTORS: nothing changes but that the run has ended
abbrev pub stopped_by : State → Stepped
stopped_by s = record { state = with_end s s.result End.Vectors; said = Said.Ended End.Vectors }

-- the run stands at a VEC or DUP whose operands are there
pub record Needs (P : Program) (s : State) : Type 0 where
  pub place : Here
  pub stands : here P s ≡ got place
  pub instr : Instr
  pub is_at : position_of place ≡ instruction instr
  pub needs : needs_vector s.vectors place.frame instr ≡ true

-- it gets one, and the step is that without a pool; or it stops with VECTORS
pub record Gets (p : Pool) (i : ℕ) (P : Program) (s : State) : Type 0 where
  pub given : gets p i (vectors_in s) ≡ true → (n : ℕ) × (free_vector s ≡ got n) × (step_with (allowed p i) P s ≡ step_of P s)
  pub stopped : gets p i (vectors_in s) ≡ false → step_with (allowed p i) P s ≡ stopped_by s

-- Wherever a step was tried under a number, in a budget too, and a vector is needed there: by the rule, with what the other numbers have and reserve then
unfoldable pub Rule : Type 0
Rule =
    (reserves : List ℕ) → length reserves ≡ RUNS → over_reserved reserves ≡ false → (l : List Asked) (i : ℕ) (t : TriedIn) → Memᴰ t (history_under i l (opened (fresh reserves)))
    → t.run.state.status ≡ Status.Running → Needs (program_in t.run) t.run.state → Gets t.pool i (program_in t.run) t.run.state

-- No other step asks the pool: it is that without a pool
unfoldable pub Others : Type 0
Others = (most : ℕ) (P : Program) (s : State) → (Needs P s → ⊥) → step_with most P s ≡ step_of P s

-- ---- the rule, at what is served

-- a single step under the number i
abbrev pub step_under : ℕ → Asked
step_under i = record { number = i; ask = go_on single }

-- a single step under i hears this and leaves the run r in this state, and the pool notes it
pub record Turns (w : House) (i : ℕ) (r : Run) (said : PoolSaid) (s : State) : Type 0 where
  pub heard : (serve (step_under i) w).heard ≡ turned said
  pub run : (serve (step_under i) w).house.runs i ≡ some (in_state r s)
  pub pool : (serve (step_under i) w).house.pool ≡ noted w.pool i s

-- the rule gives a vector: it is the step without a pool, and that is not VECTORS; else it is VECTORS
pub record ServedOne (w : House) (i : ℕ) (r : Run) (own : Stepped) : Type 0 where
  pub given : gets w.pool i (vectors_in r.state) ≡ true → Turns w i r (said_in_pool own.said) own.state × (own.said ≢ Said.Ended End.Vectors)
  pub stopped : gets w.pool i (vectors_in r.state) ≡ false → Turns w i r (PoolSaid.Ended End.Vectors) (stopped_by r.state).state

-- In the house after every list, under a number whose run stands where a vector is needed: by the rule, with what the other numbers have and reserve then
unfoldable pub ServedByRule : Type 0
ServedByRule =
    (reserves : List ℕ) → length reserves ≡ RUNS → over_reserved reserves ≡ false → (l : List Asked) (i : ℕ) → i < RUNS → let w = house_after l (opened (fresh reserves)) in
    (r : Run) → w.runs i ≡ some r → r.state.status ≡ Status.Running → Needs (program_in r) r.state → ServedOne w i r (step_of (program_in r) r.state)

-- so many single steps under it, one after the other, each with the pool that the one before left
abbrev pub singles_under : ℕ → ℕ → List Asked
singles_under i k = replicate k (step_under i)

-- as k single steps under i, a budget tries steps in these runs, and leaves every run and the pool
pub record AsSingles (w : House) (i n : ℕ) (buffer : List ℤ) (runs : List Run) (k : ℕ) : Type 0 where
  pub tried : runs ≡ map (λ (t : TriedIn). t.run) (history_under i (singles_under i k) w)
  pub left : (j : ℕ) → (serve (record { number = i; ask = go_on (budget n buffer) }) w).house.runs j ≡ (house_after (singles_under i k) w).runs j
  pub pool : (serve (record { number = i; ask = go_on (budget n buffer) }) w).house.pool ≡ (house_after (singles_under i k) w).pool

-- A budget under a number is so many single steps under it, in the house after every list; one that 13 refuses, or of an ended run, or of none, is no step
unfoldable pub BudgetIsSinglesIn : Type 0
BudgetIsSinglesIn =
    (reserves : List ℕ) → length reserves ≡ RUNS → over_reserved reserves ≡ false → (l : List Asked) (i : ℕ) → i < RUNS → (n : ℕ) (buffer : List ℤ) → let w = house_after l (opened (fresh reserves)) in
    let runs = tried_ask w.pool i (go_on (budget n buffer)) (w.runs i) in AsSingles w i n buffer runs (length runs)

-- ---- a run with the reserve 64

-- Under a number with the reserve 64, all that is heard is heard without a pool, results, steps and buffers, and the run is the same
unfoldable pub Alone : Type 0
Alone =
    (reserves : List ℕ) → length reserves ≡ RUNS → over_reserved reserves ≡ false → (l : List Asked) (i : ℕ) → i < RUNS → get_or reserves i 0 ≡ VECTORS
    → let w = opened (fresh reserves) in (heard_under i l w ≡ heard_alone (asks_under i l) none) × ((house_after l w).runs i ≡ run_alone (asks_under i l) none)

-- ---- in company: only when VECTORS comes may differ

-- the state that n steps give without a pool, stopped with VECTORS
abbrev pub stopped_after : Program → State → ℕ → State
stopped_after P s n = (stopped_by (budget_in P s n s.status).state).state

-- A budget gives what it gives without a pool, or stops with VECTORS after fewer steps, in the state that so many steps give.
-- Or after as many, where without a pool it is stuck: at a VEC or DUP that finds its operands and not its destination, in a state that no run under a number comes to (soundness, Pools).
pub data InCompany (P : Program) (s : State) (r own : Ran) : Type 0 where
  same : r ≡ own → InCompany P s r own
  earlier : r.answer ≡ Answer.Ended End.Vectors → r.steps < own.steps → r.state ≡ stopped_after P s r.steps → InCompany P s r own
  before_stuck : r.answer ≡ Answer.Ended End.Vectors → own.answer ≡ Answer.Stuck → r.steps ≡ own.steps → r.state ≡ stopped_after P s r.steps → InCompany P s r own

unfoldable pub Budgets : Type 0
Budgets = (most : ℕ) (P : Program) (s : State) (n : ℕ) (buffer : List ℤ) → InCompany P s (budget_with most P s n buffer) (budget_of P s n buffer)

-- VECTORS comes to the run r in the pool, and leaves it in a state: by a single step that goes on without a pool, or by a budget that takes more steps without one.
-- S: that it may come too where without a pool the step is stuck
pub data Comes (S : Type 0) (r : Run) : Event → Heard → Heard → State → Type 0 where
  by_single : Comes S r single (turned (PoolSaid.Ended End.Vectors)) (turned PoolSaid.GoesOn) (stopped_by r.state).state
  by_budget : (m : ℕ) (buffer : List ℤ) (j n : ℕ) (a : Answer) (left : List ℤ) → j < n
      → Comes S r (budget m buffer) (spent (Answer.Ended End.Vectors) j buffer) (spent a n left) (stopped_after (program_in r) r.state j)
  single_stuck : S → Comes S r single (turned (PoolSaid.Ended End.Vectors)) (turned PoolSaid.Stuck) (stopped_by r.state).state
  budget_stuck : S → (m : ℕ) (buffer : List ℤ) (j : ℕ) (left : List ℤ)
      → Comes S r (budget m buffer) (spent (Answer.Ended End.Vectors) j buffer) (spent Answer.Stuck j left) (stopped_after (program_in r) r.state j)

-- the run r has stopped with VECTORS: a single step says so again, and a budget, with 0 steps, unless 13 refuses it; a change is taken or refused as 3) says of that run
pub data Again (r : Run) : Event → Heard → Type 0 where
  a_single : Again r single (turned (PoolSaid.Ended End.Vectors))
  a_budget : (m : ℕ) (buffer : List ℤ) → long_enough buffer ≡ true → Again r (budget m buffer) (spent (Answer.Ended End.Vectors) 0 buffer)
  a_refusal : (m : ℕ) (buffer : List ℤ) → long_enough buffer ≡ false → Again r (budget m buffer) (spent (Answer.Refused 13 0) 0 buffer)
  a_change : (new : List ℕ) → Again r (change new) (changed (change_of r.image new r.state))

-- the number has this run, in the pool and without one; or VECTORS has come since the last start, and it has this run in the pool, which has stopped
pub data Pace : Type 0 where
  in_step : Option Run → Pace
  stopped : Run → Pace

-- what is asked under a number, what is heard in the pool, and what is heard without one: the same,
-- up to where VECTORS comes, and again from the next start that is not refused
pub data Beside (S : Type 0) : Pace → List Ask → List Heard → List Heard → Type 0 where
  end : (q : Pace) → Beside S q [] [] []
  -- the same is heard, and the run is the same
  same : (o : Option Run) (a : Ask) (h : Heard) (l : List Ask) (hs gs : List Heard) → Beside S (in_step (ask_alone a o).run) l hs gs → Beside S (in_step o) (a ∷ l) (h ∷ hs) (h ∷ gs)
  -- VECTORS comes
  comes : (r : Run) (e : Event) (h g : Heard) (s : State) (l : List Ask) (hs gs : List Heard) → Comes S r e h g s → Beside S (stopped (in_state r s)) l hs gs
      → Beside S (in_step (some r)) (go_on e ∷ l) (h ∷ hs) (g ∷ gs)
  -- or it comes at once: a start that needs more than it may have
  at_once : (image : List ℕ) (level f v : ℕ) (words buffer : List ℤ) (q : Pace) (l : List Ask) (hs gs : List Heard)
      → Beside S (stopped (record { image = image; state = overfull (begin_of image level f v words buffer).state })) l hs gs
      → Beside S q (start image level f v words buffer ∷ l) (began (Ok tt) ∷ hs) (began (Ok tt) ∷ gs)
  -- it has come
  again : (r : Run) (e : Event) (h g : Heard) (l : List Ask) (hs gs : List Heard) → Again r e h → Beside S (stopped (handle e r).run) l hs gs
      → Beside S (stopped r) (go_on e ∷ l) (h ∷ hs) (g ∷ gs)
  refused : (r : Run) (image : List ℕ) (level f v : ℕ) (words buffer : List ℤ) (k o : ℕ) (l : List Ask) (hs gs : List Heard) → Beside S (stopped r) l hs gs
      → Beside S (stopped r) (start image level f v words buffer ∷ l) (began (Err (denied k o)) ∷ hs) (began (Err (denied k o)) ∷ gs)
  anew : (r : Run) (image : List ℕ) (level f v : ℕ) (words buffer : List ℤ) (l : List Ask) (hs gs : List Heard)
      → Beside S (in_step (some (record { image = image; state = (begin_of image level f v words buffer).state }))) l hs gs
      → Beside S (stopped r) (start image level f v words buffer ∷ l) (began (Ok tt) ∷ hs) (began (Ok tt) ∷ gs)

-- Under every number, whatever is asked under the others in between
unfoldable pub CompanyBut : Type 0 → Type 0
CompanyBut S =
    (reserves : List ℕ) → length reserves ≡ RUNS → over_reserved reserves ≡ false → (l : List Asked) (i : ℕ) → i < RUNS
    → Beside S (in_step none) (asks_under i l) (heard_under i l (opened (fresh reserves))) (heard_alone (asks_under i l) none)

-- by the definitions alone; soundness has it without the steps that are stuck
abbrev pub Company : Type 0
Company = CompanyBut (Unit {0})

-- behind these asks the run r has stopped with VECTORS
pub data Stopped (asks : List Ask) (r : Run) : Type 0 where
  -- by a step or a budget of the run u, which the asks before came to without a pool: its state is the one that n steps of u give, stopped; its image is that of u, or of the last change taken since
  inside : (xs : List Ask) (e : Event) (ys : List Ask) (u : Run) (n : ℕ) → asks ≡ xs ++ (go_on e ∷ ys) → run_alone xs none ≡ some u → r.state ≡ stopped_after (program_in u) u.state n
      → some r ≡ run_alone ys (some (in_state u r.state)) → Stopped asks r
  -- or by its start, in its first state
  at_start : (xs : List Ask) (image : List ℕ) (level f v : ℕ) (words buffer : List ℤ) (ys : List Ask) → asks ≡ xs ++ (start image level f v words buffer ∷ ys)
      → (begin_of image level f v words buffer).entry ≡ Ok tt → r.state ≡ overfull (begin_of image level f v words buffer).state
      → some r ≡ run_alone ys (some (record { image = image; state = r.state })) → Stopped asks r

-- and its run is the one that it would be without a pool, or has stopped with VECTORS in a state that this one came to
unfoldable pub SameRuns : Type 0
SameRuns =
    (reserves : List ℕ) → length reserves ≡ RUNS → over_reserved reserves ≡ false → (l : List Asked) (i : ℕ) → i < RUNS
    → let o = (house_after l (opened (fresh reserves))).runs i in
    (o ≡ run_alone (asks_under i l) none) ⊎ ((r : Run) × (o ≡ some r) × (r.state.status ≡ Status.Ended End.Vectors) × Stopped (asks_under i l) r)

-- ---- refusals

unfoldable pub is_refusal : Heard → Bool
is_refusal (began (Ok _)) = false
is_refusal (began (Err why)) = true
is_refusal (turned (PoolSaid.Refused q p)) = true
is_refusal (turned PoolSaid.GoesOn) = false
is_refusal (turned (PoolSaid.Ended e)) = false
is_refusal (turned PoolSaid.Stuck) = false
is_refusal (spent (Answer.Refused q p) n buffer) = true
is_refusal (spent Answer.Steps n buffer) = false
is_refusal (spent (Answer.Ended e) n buffer) = false
is_refusal (spent Answer.Stuck n buffer) = false
is_refusal (changed (Ok _)) = false
is_refusal (changed (Err why)) = true
is_refusal nobody = false

pub record Refusals : Type 0 where
  -- 21 comes before all else,
  pub first : (a : Asked) (w : House) → refuses21 w.pool a.number ≡ true → (serve a w).heard ≡ heard21 a.ask
  -- and a refusal, of whichever question, leaves the pool and every run, that of the number of a refused start too.
  pub leaves : (a : Asked) (w : House) → is_refusal (serve a w).heard ≡ true → ((serve a w).house.pool ≡ w.pool) × ((j : ℕ) → (serve a w).house.runs j ≡ w.runs j)

-- ---- starts

-- A start needs as many vectors as its arguments have
unfoldable pub StartNeeds : Type 0
StartNeeds = (W : Version) (xs : List Given) → length xs ≤ REGISTERS → vectors_in (first_state (frame_for W (values_of xs 0) ∷ []) (vectors_of xs)) ≡ length (vectors_of xs)

-- a start whose arguments need more than it may have is begun and stopped with VECTORS, with no live call
pub record Overfull (p : Pool) (i : ℕ) (image : List ℕ) (level f v : ℕ) (words buffer : List ℤ) : Type 0 where
  pub entry : (pool_begin image level f v words buffer p i).begun.entry ≡ Ok tt
  pub no_call : (pool_begin image level f v words buffer p i).begun.state.calls ≡ 0
  pub ended : (pool_begin image level f v words buffer p i).begun.state.status ≡ Status.Ended End.Vectors
  -- whatever its budget, 0 too, in whatever pool: 0 steps, and the state stays
  pub budget : (P : Program) (q : Pool) (n : ℕ) (lent : List ℤ) → refuses21 q i ≡ false → long_enough lent ≡ true
      → let s = (pool_begin image level f v words buffer p i).begun.state in (pool_budget P q i s n lent).ran ≡ record { state = s; answer = Answer.Ended End.Vectors; steps = 0 }

unfoldable pub Overfulls : Type 0
Overfulls =
    (p : Pool) (i : ℕ) (image : List ℕ) (level f v : ℕ) (words buffer : List ℤ) → refuses21 p i ≡ false → (begin_of image level f v words buffer).entry ≡ Ok tt
    → allowed p i < vectors_in (begin_of image level f v words buffer).state → Overfull p i image level f v words buffer

-- One that needs no more begins as without a pool, with the same entry and the same state, and the pool notes it: a run always gets vectors up to its reserve, and no other start stops
unfoldable pub Fits : Type 0
Fits =
    (p : Pool) (i : ℕ) (image : List ℕ) (level f v : ℕ) (words buffer : List ℤ) → refuses21 p i ≡ false → let b = begin_of image level f v words buffer in
    b.entry ≡ Ok tt → vectors_in b.state ≤ allowed p i → pool_begin image level f v words buffer p i ≡ record { pool = noted p i b.state; begun = b }

-- ---- a pool that is made

pub record Makings : Type 0 where
  -- 21, at 0, exactly when the reserves sum above 64; the lent pool is as it was
  pub over : (reserves : List ℕ) (p : Pool) → over_reserved reserves ≡ true → make_of reserves p ≡ record { pool = p; made = Err (denied 21 0) }
  pub only : (reserves : List ℕ) (p : Pool) (q o : ℕ) → (make_of reserves p).made ≡ Err (denied q o) → VECTORS < sum reserves
  -- else it has these reserves, whatever it was before,
  pub ready : (reserves : List ℕ) (p : Pool) → over_reserved reserves ≡ false → make_of reserves p ≡ record { pool = fresh reserves; made = Ok tt }
  -- and every number has 0.
  pub empty : (reserves : List ℕ) (i : ℕ) → get_or (fresh reserves).has i 0 ≡ 0

-- ---- a state in the pool has no step behind it by 8: the pool takes and gives states without a trail

pub record NoneBehind : Type 0 where
  -- 21 is asked first, of every pool and every number;
  pub first : (p : Pool) (i : ℕ) → refuses21 p i ≡ true → pool_back p i ≡ Err (denied 21 0)
  -- else it is 20, at 0.
  pub else : (p : Pool) (i : ℕ) → refuses21 p i ≡ false → pool_back p i ≡ Err (denied 20 0)
  -- So it is after every list, under every number up to 7, whatever was asked under it.
  pub always : (reserves : List ℕ) → length reserves ≡ RUNS → over_reserved reserves ≡ false → (l : List Asked) (i : ℕ) → i < RUNS
      → pool_back (house_after l (opened (fresh reserves))).pool i ≡ Err (denied 20 0)
  -- And a trail that begins at a state has no step behind it.
  pub trail : (P : Program) (s : State) → back_of P (started s) ≡ refused20 (started s)
