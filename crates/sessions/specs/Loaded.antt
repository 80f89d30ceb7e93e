-- A loaded image runs as its own program: behind a load that answered 0, what the definitions say of image and table they say of the image. The statement alone.
use Rattle.std.specs.Prelude.{◌≡◌, List, ℕ, ℤ}
use Rattle.machine.specs.Begin.{begin_of, entered_of, program_of, run_of}
use Rattle.machine.specs.Pools.{pool_begin, pool_begun_by, pool_budget, pool_run_by, pool_step}
use Rattle.machine.specs.Runs.{budget_of, step_of}
use Rattle.machine.specs.Searches.{search_of}
use Rattle.machine.specs.Steps.{here}
use Rattle.machine.specs.Trails.{back_of, budget_on, step_on}
use Rattle.machine.specs.Values.{RANGE}
use Rattle.machine.specs.Watches.{rows_after, watch_of, watched_of}
use Rattle.machine.specs.declared.Pool.{Pool}
use Rattle.machine.specs.declared.Row.{Row}
use Rattle.machine.specs.declared.State.{State}
use Rattle.machine.specs.declared.Trail.{Trail}
use Rattle.loaded.specs.Loaded.{program_in}
use Rattle.loaded.specs.Running.{run_in_to}
use Rattle.sessions.specs.Lent.{TableOf}

-- from every state, trail and pool
pub record RunsAlike (image table : List ℕ) : Type 0 where
  -- A run is begun without the questions to the image, which were asked;
  pub begin : (level f v : ℕ) (words buffer : List ℤ) → entered_of (program_in image table) level f v words buffer ≡ begin_of image level f v words buffer
  -- each step and each budget is the same,
  pub step : (s : State) → step_of (program_in image table) s ≡ step_of (program_of image) s
  pub budget : (s : State) (n : ℕ) (buffer : List ℤ) → budget_of (program_in image table) s n buffer ≡ budget_of (program_of image) s n buffer
  -- a run from the start,
  pub run : (level f v : ℕ) (words : List ℤ) (n : ℕ) (buffer : List ℤ) → run_in_to RANGE image table level f v words n buffer ≡ run_of image level f v words n buffer
  -- where a state stands, and what a DISPATCH there looks at;
  pub place : (s : State) → here (program_in image table) s ≡ here (program_of image) s
  pub search : (s : State) → search_of (program_in image table) s ≡ search_of (program_of image) s
  -- with a trail, steps back too;
  pub step_with_trail : (t : Trail) → step_on (program_in image table) t ≡ step_on (program_of image) t
  pub budget_with_trail : (t : Trail) (n : ℕ) (buffer : List ℤ) → budget_on (program_in image table) t n buffer ≡ budget_on (program_of image) t n buffer
  pub back : (t : Trail) → back_of (program_in image table) t ≡ back_of (program_of image) t
  -- the records of the topmost call, the answer and the list;
  pub watch : (s : State) → watch_of (program_in image table) s ≡ watch_of (program_of image) s
  pub watched : (s : State) (n : ℕ) → watched_of (program_in image table) s n ≡ watched_of (program_of image) s n
  pub rows : (s : State) (rows : List Row) → rows_after (program_in image table) s rows ≡ rows_after (program_of image) s rows
  -- and in a pool.
  pub pool_start : (level f v : ℕ) (words buffer : List ℤ) (p : Pool) (i : ℕ)
      → pool_begun_by p i (entered_of (program_in image table) level f v words buffer) ≡ pool_begin image level f v words buffer p i
  pub pool_steps : (p : Pool) (i : ℕ) (s : State) → pool_step (program_in image table) p i s ≡ pool_step (program_of image) p i s
  pub pool_budgets : (p : Pool) (i : ℕ) (s : State) (n : ℕ) (buffer : List ℤ) → pool_budget (program_in image table) p i s n buffer ≡ pool_budget (program_of image) p i s n buffer
  pub pool_runs : (level f v : ℕ) (words buffer : List ℤ) (p : Pool) (i n : ℕ)
      → pool_run_by (program_in image table) p i (entered_of (program_in image table) level f v words buffer) n buffer
      ≡ pool_run_by (program_of image) p i (begin_of image level f v words buffer) n buffer

-- So for every table that fir_load filled from an image with the answer 0
unfoldable pub LoadedRuns : Type 0
LoadedRuns = (image table : List ℕ) → TableOf image table → RunsAlike image table
