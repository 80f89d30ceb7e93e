-- 02, 10: eight scripts, one store. What each run reserves of 64 vectors and how many each has, and what is asked under a number.
use Rattle.std.specs.Prelude.{List, [], ◌∷◌, Bool, true, false, cond, ◌||◌, ℕ, zero, suc, ◌+◌, ◌-◌, ℤ, get_or, set, replicate, leb, ltb, Err, Ok}
use Rattle.program.specs.Program.{Program}
use Rattle.machine.specs.States.{VECTORS, with_end}
use Rattle.machine.specs.Calls.{closed}
use Rattle.machine.specs.Begin.{begin_of, refused}
use Rattle.machine.specs.Changes.{change_of}
use Rattle.machine.specs.Allowed.{vectors_in, step_with, budget_with}
use Rattle.machine.specs.declared.Answer.{Answer}
use Rattle.machine.specs.declared.Begun.{Begun}
use Rattle.machine.specs.declared.End.{End}
use Rattle.machine.specs.declared.Pool.{Pool}
use Rattle.machine.specs.declared.Ran.{Ran}
use Rattle.machine.specs.declared.Said.{Said}
use Rattle.machine.specs.declared.State.{State}
use Rattle.machine.specs.declared.Status.{Status}
use Rattle.machine.specs.declared.PoolSaid.{PoolSaid}
use Rattle.machine.specs.Denials.{Grant, denied}

-- the numbers of runs: 0 to 7
abbrev pub RUNS : ℕ
RUNS = 8

-- ---- the rule

unfoldable pub sum : List ℕ → ℕ
sum [] = 0
sum (n ∷ ns) = n + sum ns

-- the sum of all but that of the number i
unfoldable pub sum_but : ℕ → List ℕ → ℕ
sum_but i [] = 0
sum_but zero (h ∷ hs) = sum hs
sum_but (suc i) (h ∷ hs) = h + sum_but i hs

-- unused reserves, number by number: what is reserved above what the run has
unfoldable pub unused : List ℕ → List ℕ → List ℕ
unused [] hs = []
unused (r ∷ rs) [] = r ∷ unused rs []
unused (r ∷ rs) (h ∷ hs) = (r - h) ∷ unused rs hs

-- the reserve of a number
abbrev pub reserve_of : Pool → ℕ → ℕ
reserve_of p i = get_or p.reserves i 0

-- The rule, for the run i while it has h vectors: it always gets one up to its reserve; above it, exactly when those in use plus other runs' unused reserves are below 64
unfoldable pub gets : Pool → ℕ → ℕ → Bool
gets p i h = ltb h (reserve_of p i) || ltb (h + sum_but i p.has + sum_but i (unused p.reserves p.has)) VECTORS

unfoldable pub larger : ℕ → ℕ → ℕ
larger m n = cond (leb m n) n m

-- how many the run i may have, while no other run moves: it gets one more exactly when it has fewer
unfoldable pub allowed : Pool → ℕ → ℕ
allowed p i = larger (reserve_of p i) (VECTORS - (sum_but i p.has + sum_but i (unused p.reserves p.has)))

-- ---- 21, and a pool that is made

-- reserves sum above 64
unfoldable pub over_reserved : List ℕ → Bool
over_reserved reserves = ltb VECTORS (sum reserves)

-- 21, asked before all else: reserves sum above 64, or the number is above 7
unfoldable pub refuses21 : Pool → ℕ → Bool
refuses21 p i = over_reserved p.reserves || leb RUNS i

-- a pool of these reserves, in which no number has a run
abbrev pub fresh : List ℕ → Pool
fresh reserves = record { reserves = reserves; has = replicate RUNS 0 }

-- the lent pool after it is made, and the answer; 21 leaves the pool as it was
pub record PoolMade : Type 0 where
  pub pool : Pool
  pub made : Grant

unfoldable pub make_of : List ℕ → Pool → PoolMade
make_of reserves p = elim (over_reserved reserves) [ true ↦ record { pool = p; made = Err (denied 21 0) } | false ↦ record { pool = fresh reserves; made = Ok tt } ]

-- ---- what a run has

-- vectors that count in it; those of an ended run count for nobody
unfoldable pub has_in : State → Status → ℕ
has_in s Status.Running = vectors_in s
has_in s (Status.Ended e) = 0

-- the pool when the run i has come to the state s
unfoldable pub noted : Pool → ℕ → State → Pool
noted p i s = record { reserves = p.reserves; has = set p.has i (has_in s s.status) }

-- ---- a single step under the number i

unfoldable pub said_in_pool : Said → PoolSaid
said_in_pool Said.GoesOn = PoolSaid.GoesOn
said_in_pool (Said.Ended e) = PoolSaid.Ended e
said_in_pool Said.Stuck = PoolSaid.Stuck

pub record PoolStepped : Type 0 where
  pub pool : Pool
  pub state : State
  pub turn : PoolSaid

unfoldable pub pool_step : Program → Pool → ℕ → State → PoolStepped
pool_step P p i s = elim (refuses21 p i) [
  | true ↦ record { pool = p; state = s; turn = PoolSaid.Refused 21 0 }
  | false ↦ let r = step_with (allowed p i) P s in record { pool = noted p i r.state; state = r.state; turn = said_in_pool r.said }
]

-- ---- a budget under the number i

pub record PoolRan : Type 0 where
  pub pool : Pool
  pub ran : Ran

-- a refusal, by 13, leaves the pool too
unfoldable pub noted_after : Pool → ℕ → Ran → Answer → Pool
noted_after p i r (Answer.Refused q o) = p
noted_after p i r Answer.Steps = noted p i r.state
noted_after p i r (Answer.Ended e) = noted p i r.state
noted_after p i r Answer.Stuck = noted p i r.state

unfoldable pub pool_budget : Program → Pool → ℕ → State → ℕ → List ℤ → PoolRan
pool_budget P p i s n buffer = elim (refuses21 p i) [
  | true ↦ record { pool = p; ran = record { state = s; answer = Answer.Refused 21 0; steps = 0 } }
  | false ↦ let r = budget_with (allowed p i) P s n buffer in record { pool = noted_after p i r r.answer; ran = r }
]

-- ---- a change by 3 under the number i: the state is carried over whole, so the pool stays

unfoldable pub pool_change : Pool → ℕ → List ℕ → List ℕ → State → Grant
pool_change p i old new s = elim (refuses21 p i) [ true ↦ Err (denied 21 0) | false ↦ change_of old new s ]

-- ---- a step back under the number i: a state in the pool has no step behind it by 8

unfoldable pub pool_back : Pool → ℕ → Grant
pool_back p i = elim (refuses21 p i) [ true ↦ Err (denied 21 0) | false ↦ Err (denied 20 0) ]

-- ---- a start under the number i

-- one that needs more than it may have stops at once: no live call, ended with VECTORS
abbrev pub overfull : State → State
overfull s = with_end (closed s) s.result End.Vectors

-- its first state, or VECTORS. What the run i may have does not depend on what it has: the run that had the number is ended first
unfoldable pub started_in : Pool → ℕ → State → State
started_in p i s = cond (leb (vectors_in s) (allowed p i)) s (overfull s)

pub record PoolBegun : Type 0 where
  pub pool : Pool
  pub begun : Begun

-- a start that is refused leaves the pool
unfoldable pub pool_begun_as : Pool → ℕ → Begun → Grant → PoolBegun
pool_begun_as p i b (Err why) = record { pool = p; begun = b }
pool_begun_as p i b (Ok _) = let s = started_in p i b.state in record { pool = noted p i s; begun = record { state = s; entry = Ok tt } }

-- a start, by what beginning comes to without a pool; 21 is asked first
abbrev pub pool_begun_by : Pool → ℕ → Begun → PoolBegun
pool_begun_by p i b = elim (refuses21 p i) [ true ↦ record { pool = p; begun = refused 21 0 } | false ↦ pool_begun_as p i b b.entry ]

unfoldable pub pool_begin : List ℕ → ℕ → ℕ → ℕ → List ℤ → List ℤ → Pool → ℕ → PoolBegun
pool_begin image level f v words buffer p i = pool_begun_by p i (begin_of image level f v words buffer)

-- ---- a start and its first budget under the number i

unfoldable pub pool_run_as : Program → ℕ → ℕ → List ℤ → PoolBegun → Grant → PoolRan
pool_run_as P i n buffer x (Err why) = record { pool = x.pool; ran = record { state = x.begun.state; answer = Answer.Refused why.question why.at; steps = 0 } }
pool_run_as P i n buffer x (Ok _) = pool_budget P x.pool i x.begun.state n buffer

abbrev pub pool_run_by : Program → Pool → ℕ → Begun → ℕ → List ℤ → PoolRan
pool_run_by P p i b n buffer = let x = pool_begun_by p i b in pool_run_as P i n buffer x x.begun.entry
