-- 02, 10: where each number goes on from the state that the last start, step, budget or change under it gave, and nobody else writes the pool.
use Rattle.std.specs.Prelude.{List, [], ◌∷◌, ◌++◌, map, true, false, cond, ℕ, ℤ, eqb, Err, Ok}
use Rattle.std.proofs.Math.Option.{Option, none, some}
use Rattle.machine.specs.Runs.{buffer_of}
use Rattle.machine.specs.Begin.{begin_of}
use Rattle.machine.specs.Events.{Run, program_in, in_state, Event, single, budget, change, Reply, said, gave, became, in_force, handle}
use Rattle.machine.specs.Allowed.{tried_by_with}
use Rattle.machine.specs.Pools.{allowed, refuses21, said_in_pool, pool_step, pool_budget, pool_change, pool_begin}
use Rattle.machine.specs.declared.Answer.{Answer}
use Rattle.machine.specs.declared.Pool.{Pool}
use Rattle.machine.specs.declared.State.{State}
use Rattle.machine.specs.declared.PoolSaid.{PoolSaid}
use Rattle.machine.specs.Denials.{Grant, denied}

-- ---- what is asked under a number, and what is heard

-- a start of an image, at a level, of a version with argument words and a lent buffer; or a step, a budget or a change of the run
pub data Ask : Type 0 where
  start : (image : List ℕ) (level f v : ℕ) (words buffer : List ℤ) → Ask
  go_on : Event → Ask

pub record Asked : Type 0 where
  pub number : ℕ
  pub ask : Ask

-- a start its entry, a single step its turn, a budget its answer, its steps and the lent buffer, a change whether it is taken; nobody under a number without a run, which has no state to go on from
pub data Heard : Type 0 where
  began : Grant → Heard
  turned : PoolSaid → Heard
  spent : Answer → ℕ → List ℤ → Heard
  changed : Grant → Heard
  nobody : Heard

-- 21, at 0
unfoldable pub heard21 : Ask → Heard
heard21 (start image level f v words buffer) = began (Err (denied 21 0))
heard21 (go_on single) = turned (PoolSaid.Refused 21 0)
heard21 (go_on (budget n buffer)) = spent (Answer.Refused 21 0) 0 buffer
heard21 (go_on (change new)) = changed (Err (denied 21 0))

-- ---- under one number

-- the pool, the run of the number, and what is heard
pub record Lodged : Type 0 where
  pub pool : Pool
  pub run : Option Run
  pub heard : Heard

-- the run that has the number after a start; one that is refused leaves the run that had it, any other ends that one
unfoldable pub started_run : List ℕ → State → Option Run → Grant → Option Run
started_run image s o (Err why) = o
started_run image s o (Ok _) = some (record { image = image; state = s })

-- a run that goes on
unfoldable pub go_on_in : Pool → ℕ → Event → Run → Lodged
go_on_in p i single r = let x = pool_step (program_in r) p i r.state in record { pool = x.pool; run = some (in_state r x.state); heard = turned x.turn }
go_on_in p i (budget n buffer) r =
    let x = pool_budget (program_in r) p i r.state n buffer in
    record { pool = x.pool; run = some (in_state r x.ran.state); heard = spent x.ran.answer x.ran.steps (buffer_of x.ran buffer) }
go_on_in p i (change new) r = let c = pool_change p i r.image new r.state in record { pool = p; run = some (record { image = in_force c r.image new; state = r.state }); heard = changed c }

unfoldable pub ask_in : Pool → ℕ → Ask → Option Run → Lodged
ask_in p i (start image level f v words buffer) o =
    let x = pool_begin image level f v words buffer p i in
    record { pool = x.pool; run = started_run image x.begun.state o x.begun.entry; heard = began x.begun.entry }
ask_in p i (go_on e) none = record { pool = p; run = none; heard = cond (refuses21 p i) (heard21 (go_on e)) nobody }
ask_in p i (go_on e) (some r) = go_on_in p i e r

-- ---- the house: the pool, and under each number its run, if one was started

pub record House : Type 0 where
  pub pool : Pool
  pub runs : ℕ → Option Run

-- a pool just made: no number has a run
abbrev pub opened : Pool → House
opened p = record { pool = p; runs = λ i. none }

-- o under the number i, all others as they were
unfoldable pub placed : (ℕ → Option Run) → ℕ → Option Run → ℕ → Option Run
placed runs i o j = cond (eqb j i) o (runs j)

pub record Served : Type 0 where
  pub house : House
  pub heard : Heard

unfoldable pub serve : Asked → House → Served
serve a w = let x = ask_in w.pool a.number a.ask (w.runs a.number) in record { house = record { pool = x.pool; runs = placed w.runs a.number x.run }; heard = x.heard }

-- the house after a list
unfoldable pub house_after : List Asked → House → House
house_after [] w = w
house_after (a ∷ l) w = house_after l (serve a w).house

-- what is heard under the number i, in order
unfoldable pub heard_under : ℕ → List Asked → House → List Heard
heard_under i [] w = []
heard_under i (a ∷ l) w = let x = serve a w in elim (eqb a.number i) [ true ↦ x.heard ∷ heard_under i l x.house | false ↦ heard_under i l x.house ]

-- what is asked under it
unfoldable pub asks_under : ℕ → List Asked → List Ask
asks_under i [] = []
asks_under i (a ∷ l) = elim (eqb a.number i) [ true ↦ a.ask ∷ asks_under i l | false ↦ asks_under i l ]

-- ---- the same without a pool

unfoldable pub heard_as : Reply → Heard
heard_as (said d) = turned (said_in_pool d)
heard_as (gave a n buffer) = spent a n buffer
heard_as (became c) = changed c

pub record Solo : Type 0 where
  pub run : Option Run
  pub heard : Heard

unfoldable pub ask_alone : Ask → Option Run → Solo
ask_alone (start image level f v words buffer) o = let b = begin_of image level f v words buffer in record { run = started_run image b.state o b.entry; heard = began b.entry }
ask_alone (go_on e) none = record { run = none; heard = nobody }
ask_alone (go_on e) (some r) = let h = handle e r in record { run = some h.run; heard = heard_as h.reply }

-- what is heard without a pool, in order
unfoldable pub heard_alone : List Ask → Option Run → List Heard
heard_alone [] o = []
heard_alone (a ∷ l) o = let x = ask_alone a o in x.heard ∷ heard_alone l x.run

-- and the run that is left
unfoldable pub run_alone : List Ask → Option Run → Option Run
run_alone [] o = o
run_alone (a ∷ l) o = run_alone l (ask_alone a o).run

-- ---- history: where a step was tried under a number, with the image and the pool then

pub record TriedIn : Type 0 where
  pub pool : Pool
  pub run : Run

unfoldable pub tried_by : Pool → ℕ → Event → Run → List Run
tried_by p i single r = r ∷ []
tried_by p i (budget n buffer) r = map (in_state r) (tried_by_with (allowed p i) (program_in r) r.state n buffer)
tried_by p i (change new) r = []

-- by one ask; 21 tries none
unfoldable pub tried_ask : Pool → ℕ → Ask → Option Run → List Run
tried_ask p i (start image level f v words buffer) o = []
tried_ask p i (go_on e) none = []
tried_ask p i (go_on e) (some r) = elim (refuses21 p i) [ true ↦ [] | false ↦ tried_by p i e r ]

-- by a list, under the number i; in a budget the pool is the one that it was lent
unfoldable pub history_under : ℕ → List Asked → House → List TriedIn
history_under i [] w = []
history_under i (a ∷ l) w = elim (eqb a.number i) [
  | true ↦ map (λ r. record { pool = w.pool; run = r }) (tried_ask w.pool i a.ask (w.runs i)) ++ history_under i l (serve a w).house
  | false ↦ history_under i l (serve a w).house
]
