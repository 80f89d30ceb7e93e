-- 02, 10: the store of 64 vectors, after every list of starts, steps, budgets and changes under any numbers. The statements.
use Rattle.std.specs.Prelude.{◌≡◌, List, Bool, true, false, ℕ, ◌+◌, ◌≤◌, ◌<◌, length, get_or, ltb}
use Rattle.std.proofs.Math.Option.{Option, none, some}
use Rattle.machine.specs.States.{VECTORS}
use Rattle.machine.specs.Events.{Run}
use Rattle.machine.specs.Pools.{RUNS, sum, unused, reserve_of, gets, allowed, over_reserved, fresh, has_in}
use Rattle.machine.specs.Houses.{Asked, House, opened, house_after}
use Rattle.machine.specs.declared.Pool.{Pool}
use Rattle.machine.specs.declared.Status.{Status}

-- A run may have one more exactly when the rule gives it one
unfoldable pub AllowedIs : Type 0
AllowedIs = (p : Pool) (i h : ℕ) → ltb h (allowed p i) ≡ gets p i h

-- what a number has: the vectors that count in its run; none without a live run
unfoldable pub has_of : Option Run → ℕ
has_of none = 0
has_of (some r) = has_in r.state r.state.status

-- the run goes on
unfoldable pub goes_on : Status → Bool
goes_on Status.Running = true
goes_on (Status.Ended e) = false

-- the number has a live run
unfoldable pub lives : Option Run → Bool
lives none = false
lives (some r) = goes_on r.state.status

-- of a house whose pool was made with these reserves
pub record Housed (reserves : List ℕ) (w : House) : Type 0 where
  -- Reserves are fixed when the pool is made,
  pub fixed : w.pool.reserves ≡ reserves
  -- and no number above 7 has a run.
  pub eight : (i : ℕ) → RUNS ≤ i → w.runs i ≡ none
  -- The pool knows how many vectors each number has,
  pub known : (i : ℕ) → i < RUNS → get_or w.pool.has i 0 ≡ has_of (w.runs i)
  -- which are never more than 64 together,
  pub store : sum w.pool.has ≤ VECTORS
  -- nor with the unused reserves.
  pub held : sum w.pool.has + sum (unused w.pool.reserves w.pool.has) ≤ VECTORS
  -- None has more than it may have,
  pub inside : (i : ℕ) → i < RUNS → get_or w.pool.has i 0 ≤ allowed w.pool i
  -- and each may have its reserve, and never more than 64.
  pub reserve : (i : ℕ) → reserve_of w.pool i ≤ allowed w.pool i
  pub bounded : (i : ℕ) → i < RUNS → allowed w.pool i ≤ VECTORS
  -- A number without a live run keeps its whole reserve as unused.
  pub waiting : (i : ℕ) → i < RUNS → lives (w.runs i) ≡ false → get_or (unused w.pool.reserves w.pool.has) i 0 ≡ reserve_of w.pool i

-- After every list, from a pool just made
unfoldable pub Stores : Type 0
Stores = (reserves : List ℕ) → length reserves ≡ RUNS → over_reserved reserves ≡ false → (l : List Asked) → Housed reserves (house_after l (opened (fresh reserves)))
