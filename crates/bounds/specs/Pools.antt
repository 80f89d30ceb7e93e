-- 02, 12 in the pool of 02, 10: a run under a number never takes more steps than a bound given for its entry. The statement alone.
use Rattle.std.specs.Prelude.{◌≡◌, List, [], ◌∷◌, Bool, true, false, cond, not, ℕ, ◌+◌, ◌≤◌, ℤ, eqb, Err, Ok}
use Rattle.std.proofs.Math.Option.{Option, none, some}
use Rattle.layout.specs.Tests.{all}
use Rattle.program.specs.Program.{Version, find_version}
use Rattle.machine.specs.Runs.{last_step}
use Rattle.machine.specs.Begin.{program_of}
use Rattle.machine.specs.Events.{Run, single, budget, change, program_in}
use Rattle.machine.specs.Pools.{pool_step, pool_budget}
use Rattle.machine.specs.Houses.{Ask, start, go_on, Asked, Heard, began, turned, spent, changed, nobody, House, serve, heard_under}
use Rattle.machine.specs.declared.Pool.{Pool}
use Rattle.machine.specs.declared.PoolSaid.{PoolSaid}
use Rattle.machine.specs.declared.Status.{Status}
use Rattle.bounds.specs.Bounds.{steps, bound_of}

-- the steps that a single step takes in a pool, by the status before it and what it says: as a budget counts them, and 0 on an ended run
unfoldable pub taken_turn : Status → PoolSaid → ℕ
taken_turn (Status.Ended e) t = 0
taken_turn Status.Running PoolSaid.GoesOn = 1
taken_turn Status.Running (PoolSaid.Ended e) = last_step e
taken_turn Status.Running PoolSaid.Stuck = 0
taken_turn Status.Running (PoolSaid.Refused q p) = 0

-- by one ask under the number i, of the run that it has; a start and a change take none
unfoldable pub taken_ask : Pool → ℕ → Ask → Option Run → ℕ
taken_ask p i (start image level f v words buffer) o = 0
taken_ask p i (go_on e) none = 0
taken_ask p i (go_on single) (some r) = taken_turn r.state.status (pool_step (program_in r) p i r.state).turn
taken_ask p i (go_on (budget n buffer)) (some r) = (pool_budget (program_in r) p i r.state n buffer).ran.steps
taken_ask p i (go_on (change new)) (some r) = 0

-- by a list, in all that is asked under i; what is asked under other numbers stands between
unfoldable pub taken_under : ℕ → List Asked → House → ℕ
taken_under i [] w = 0
taken_under i (a ∷ l) w = cond (eqb a.number i) (taken_ask w.pool i a.ask (w.runs i)) 0 + taken_under i l (serve a w).house

-- another run or another image: a start that is not refused, or a change by 3) that is taken
unfoldable pub is_new : Heard → Bool
is_new (began (Ok _)) = true
is_new (began (Err why)) = false
is_new (turned t) = false
is_new (spent a n buffer) = false
is_new (changed (Ok _)) = true
is_new (changed (Err why)) = false
is_new nobody = false

-- none of them came between, under i
unfoldable pub stays_under : ℕ → List Asked → House → Bool
stays_under i l w = all (λ (h : Heard). not (is_new h)) (heard_under i l w)

-- In every house, whatever its pool: behind a start under a number that is not refused, where no other such start and no change by 3) came under it,
-- and whatever is asked under other numbers, all steps under it together are never more than a bound given for the entry
unfoldable pub AtMostPool : Type 0
AtMostPool =
    (w : House) (i : ℕ) (image : List ℕ) (level f v : ℕ) (words buffer : List ℤ) → let a : Asked = record { number = i; ask = start image level f v words buffer } in
    (serve a w).heard ≡ began (Ok tt) → (W : Version) → find_version (program_of image) f v ≡ some W → (n : ℕ) → bound_of (program_of image) W ≡ steps n
    → (l : List Asked) → let u = (serve a w).house in stays_under i l u ≡ true → taken_under i l u ≤ n
