-- A list of calls of fir_pool_begin, fir_pool_run, fir_pool_step, fir_pool_budget and fir_pool_change under any numbers of one pool is a list of asks: the statements alone.
use Rattle.std.specs.Prelude.{◌≡◌, List, [], ◌∷◌, ◌++◌, map, true, cond, ℕ, eqb, ℤ, length}
use Rattle.std.proofs.Math.Option.{Option, none, some}
use Rattle.machine.specs.Events.{Run, single, budget, change}
use Rattle.machine.specs.Pools.{RUNS, fresh, refuses21}
use Rattle.machine.specs.Houses.{Ask, start, go_on, Asked, Heard, began, turned, spent, changed, nobody, House, opened, house_after, heard_under, history_under}
use Rattle.machine.specs.declared.Pool.{Pool}
use Rattle.soundness.specs.Pools.{SafeUnder}
use Rattle.abi.specs.Answers.{answer_numbers, grant_numbers, turn_numbers}
use Rattle.abi.specs.Calls.{PoolBeginCall, PoolBudgetCall, PoolChangeCall, PoolRunCall, PoolStepCall}
use Rattle.abi.specs.Pools.{MakesIn}
use Rattle.abi.specs.declared.answers.FirAnswer.{FirAnswer}
use Rattle.abi.specs.declared.answers.FirEntry.{FirEntry}
use Rattle.abi.specs.declared.answers.FirTurn.{FirTurn}
use Rattle.abi.specs.declared.state.FirState.{FirState}
use Rattle.sessions.specs.Lent.{TableOf, run_in}

-- ---- what a host keeps

-- the pool, for each number a state, and the image in force under it where a run was started
pub record Host : Type 0 where
  pub pool : Pool
  pub states : ℕ → FirState
  pub images : ℕ → Option (List ℕ)

-- x under the number i, all others as they were
unfoldable pub put_at : {A : Type 0} → (ℕ → A) → ℕ → A → ℕ → A
put_at f i x j = cond (eqb j i) x (f j)

-- the run of a number
unfoldable pub run_of : Option (List ℕ) → FirState → Option Run
run_of none S = none
run_of (some image) S = some (run_in image S)

-- the house that it stands for
abbrev pub house_of : Host → House
house_of h = record { pool = h.pool; runs = λ j. run_of (h.images j) (h.states j) }

-- a pool just made, with states of any bytes: no number has a run
abbrev pub vacant : Pool → (ℕ → FirState) → Host
vacant p states = record { pool = p; states = states; images = λ j. none }

-- ---- calls

-- a call with the images and tables that it is lent, and what it answers
pub data Request : Type 0 where
  begin : (image table : List ℕ) (level f v : ℕ) (words buffer : List ℤ) (r : FirEntry) → Request
  run : (image table : List ℕ) (level f v : ℕ) (words : List ℤ) (n : ℕ) (buffer last : List ℤ) (r : FirAnswer) → Request
  step : (image table : List ℕ) (r : FirTurn) → Request
  steps : (image table : List ℕ) (n : ℕ) (buffer last : List ℤ) (r : FirAnswer) → Request
  update : (old new : List ℕ) (r : FirEntry) → Request

-- under a number of the pool
pub record PoolCall : Type 0 where
  pub number : ℕ
  pub request : Request

-- the image that a run is lent: the one in force under its number; any where 21 refuses a number without a run
pub data InForce (p : Pool) (i : ℕ) : Option (List ℕ) → List ℕ → Type 0 where
  own : (image : List ℕ) → InForce p i (some image) image
  foreign : (image : List ℕ) → refuses21 p i ≡ true → InForce p i none image

-- made under a number: the contract of its function, of the state of the number and the pool, before and after; fir_pool_change only reads them
unfoldable pub MeetsIn : Option (List ℕ) → Request → Pool → ℕ → FirState → FirState → Pool → Type 0
MeetsIn o (begin image table level f v words buffer r) p i S S' p' = TableOf image table × PoolBeginCall image table level f v words buffer p i r S S' p'
MeetsIn o (run image table level f v words n buffer last r) p i S S' p' = TableOf image table × PoolRunCall image table level f v words n p i r S S' p' buffer last
MeetsIn o (step image table r) p i S S' p' = InForce p i o image × TableOf image table × PoolStepCall image table p i r S S' p'
MeetsIn o (steps image table n buffer last r) p i S S' p' = InForce p i o image × TableOf image table × PoolBudgetCall image table n p i r S S' p' buffer last
MeetsIn o (update old new r) p i S S' p' = InForce p i o old × PoolChangeCall old new p i r S × (S' ≡ S) × (p' ≡ p)

-- the image in force behind it: that of a start that is not refused, and the new one of a change, where the answer is 0
unfoldable pub image_after : Option (List ℕ) → Request → Option (List ℕ)
image_after o (begin image table level f v words buffer r) = cond (eqb r.question 0) (some image) o
image_after o (run image table level f v words n buffer last r) = cond (eqb r.code 8) o (some image)
image_after o (step image table r) = o
image_after o (steps image table n buffer last r) = o
image_after o (update old new r) = cond (eqb r.question 0) (some new) o

-- what the host keeps behind it
abbrev pub host_after : Host → PoolCall → FirState → Pool → Host
host_after h c S' p' = record { pool = p'; states = put_at h.states c.number S'; images = put_at h.images c.number (image_after (h.images c.number) c.request) }

-- calls one after the other, each lent the state of its number and the pool
pub data PoolSession : Host → List PoolCall → Host → Type 0 where
  empty : (h : Host) → PoolSession h [] h
  next : (h : Host) (c : PoolCall) (S' : FirState) (p' : Pool) (cs : List PoolCall) (end : Host)
      → MeetsIn (h.images c.number) c.request h.pool c.number (h.states c.number) S' p' → PoolSession (host_after h c S' p') cs end → PoolSession h (c ∷ cs) end

-- ---- asks

-- what a call asks; fir_pool_run that is not refused a start, and then its first budget
unfoldable pub asks_by : Request → List Ask
asks_by (begin image table level f v words buffer r) = start image level f v words buffer ∷ []
asks_by (run image table level f v words n buffer last r) = start image level f v words buffer ∷ cond (eqb r.code 8) [] (go_on (budget n buffer) ∷ [])
asks_by (step image table r) = go_on single ∷ []
asks_by (steps image table n buffer last r) = go_on (budget n buffer) ∷ []
asks_by (update old new r) = go_on (change new) ∷ []

-- under a number
abbrev pub under : ℕ → Ask → Asked
under i a = record { number = i; ask = a }

-- what the calls of a list ask, in order
unfoldable pub asks_of : List PoolCall → List Asked
asks_of [] = []
asks_of (c ∷ cs) = map (under c.number) (asks_by c.request) ++ asks_of cs

-- what a call tells, in numbers
pub data PoolTold : Type 0 where
  by_begin : FirEntry → PoolTold
  by_turn : FirTurn → PoolTold
  by_budget : FirAnswer → List ℤ → PoolTold
  by_change : FirEntry → PoolTold
  by_nobody : PoolTold

-- fir_pool_run tells what a start tells, and where it is not refused what its first budget tells
unfoldable pub told_in : Request → List PoolTold
told_in (begin image table level f v words buffer r) = by_begin r ∷ []
told_in (run image table level f v words n buffer last r) =
    cond (eqb r.code 8) (by_begin (record { offset = r.offset; question = r.question }) ∷ []) (by_begin (record { offset = 0; question = 0 }) ∷ by_budget r last ∷ [])
told_in (step image table r) = by_turn r ∷ []
told_in (steps image table n buffer last r) = by_budget r last ∷ []
told_in (update old new r) = by_change r ∷ []

-- what is heard, in numbers
unfoldable pub heard_in_numbers : Heard → PoolTold
heard_in_numbers (began e) = by_begin (grant_numbers e)
heard_in_numbers (turned t) = by_turn (turn_numbers t)
heard_in_numbers (spent a n last) = by_budget (answer_numbers a n) last
heard_in_numbers (changed c) = by_change (grant_numbers c)
heard_in_numbers nobody = by_nobody

-- what the calls under the number i tell, in order
unfoldable pub told_under : ℕ → List PoolCall → List PoolTold
told_under i [] = []
told_under i (c ∷ cs) = cond (eqb c.number i) (told_in c.request) [] ++ told_under i cs

-- ---- the statements

-- Every list of calls leaves the house that its asks leave, and tells under each number what is heard there, whatever the bytes of the first states and of the pool
unfoldable pub CallsAreAsks : Type 0
CallsAreAsks =
    (h : Host) (cs : List PoolCall) (end : Host) → PoolSession h cs end
    → (house_of end ≡ house_after (asks_of cs) (house_of h)) × ((i : ℕ) → told_under i cs ≡ map heard_in_numbers (heard_under i (asks_of cs) (house_of h)))

-- Demand 3 of them, under each number: after fir_pool_make with the answer 0, and every list of calls
unfoldable pub Demand3PoolInC : Type 0
Demand3PoolInC =
    (reserves : List ℕ) (before p : Pool) (r : FirEntry) → length reserves ≡ RUNS → MakesIn r reserves before p → r.question ≡ 0
    → (states : ℕ → FirState) (cs : List PoolCall) (end : Host) → PoolSession (vacant p states) cs end
    → (i : ℕ) → SafeUnder i (history_under i (asks_of cs) (opened (fresh reserves))) (run_of (end.images i) (end.states i))
