-- What the contract of a C function says of one call: the image and the table that it is lent, its answer r, and what lies in the caller's memory before (S, T, p) and after (S', T', p').
use Rattle.std.specs.Prelude.{List, ◌≡◌, ℕ, ℤ, length}
use Rattle.machine.specs.Changes.{change_of}
use Rattle.machine.specs.Pools.{pool_change}
use Rattle.machine.specs.Runs.{budget_of, step_of}
use Rattle.machine.specs.Values.{RANGE}
use Rattle.machine.specs.Watches.{rows_after, watched_of}
use Rattle.machine.specs.declared.Pool.{Pool}
use Rattle.machine.specs.declared.Row.{Row}
use Rattle.loaded.specs.Loaded.{program_in}
use Rattle.loaded.specs.Loading.{Stands, load_of}
use Rattle.loaded.specs.Running.{run_in_to}
use Rattle.begin.specs.Asking.{entered_at}
use Rattle.abi.specs.Answers.{grant_numbers, loaded_numbers, watched_numbers}
use Rattle.abi.specs.Exits.{Answers, Began, Rests, Steps, entrance}
use Rattle.abi.specs.Held.{held}
use Rattle.abi.specs.Pools.{AnswersIn, BeginsIn, RunsIn, StepsIn}
use Rattle.abi.specs.Trails.{AnswersOn, BacksOn, StepsOn}
use Rattle.abi.specs.declared.answers.FirAnswer.{FirAnswer}
use Rattle.abi.specs.declared.answers.FirEntry.{FirEntry}
use Rattle.abi.specs.declared.answers.FirLoaded.{FirLoaded}
use Rattle.abi.specs.declared.answers.FirSaid.{FirSaid}
use Rattle.abi.specs.declared.answers.FirTurn.{FirTurn}
use Rattle.abi.specs.declared.answers.FirWatched.{FirWatched}
use Rattle.abi.specs.declared.state.FirState.{FirState}
use Rattle.abi.specs.declared.state.FirTrail.{FirTrail}

-- fir_load: the table stands for the image's program, or for none
abbrev pub Loads : List ℕ → FirLoaded → List ℕ → List ℕ → Type 0
Loads image r before table = (r ≡ loaded_numbers (load_of image (length before))) × Stands image table (load_of image (length before)) × (length table ≡ length before)

-- ---- a state

-- fir_begin: a run at a level, of the version v of the function f
abbrev pub BeginCall : List ℕ → List ℕ → ℕ → ℕ → ℕ → List ℤ → List ℤ → FirEntry → FirState → FirState → Type 0
BeginCall image table level f v words buffer r S S' =
    let P = program_in image table in
    let x = (entered_at P (entrance level f v) words buffer).entry in
    (r ≡ grant_numbers x) × Began x P (entrance level f v) words buffer S S'

-- fir_step
abbrev pub StepCall : List ℕ → List ℕ → FirSaid → FirState → FirState → Type 0
StepCall image table r S S' = Steps r (step_of (program_in image table) (held S)) S S'

-- fir_budget of n steps, with the lent buffer before and after
abbrev pub BudgetCall : List ℕ → List ℕ → ℕ → FirAnswer → FirState → FirState → List ℤ → List ℤ → Type 0
BudgetCall image table n r S S' buffer last =
    let b = budget_of (program_in image table) (held S) n buffer in
    Answers r b S S' buffer last × Rests n b S S'

-- fir_run: a begin and its first budget
abbrev pub RunCall : List ℕ → List ℕ → ℕ → ℕ → ℕ → List ℤ → ℕ → FirAnswer → FirState → FirState → List ℤ → List ℤ → Type 0
RunCall image table level f v words n r S S' buffer last = Answers r (run_in_to RANGE image table level f v words n buffer) S S' buffer last

-- fir_change, which is lent the state to read
abbrev pub ChangeCall : List ℕ → List ℕ → FirEntry → FirState → Type 0
ChangeCall old new r S = r ≡ grant_numbers (change_of old new (held S))

-- fir_watch, which is lent the state to read, and a list of records
abbrev pub WatchCall : List ℕ → List ℕ → FirWatched → FirState → List Row → List Row → Type 0
WatchCall image table r S rows last =
    let P = program_in image table in
    (r ≡ watched_numbers (watched_of P (held S) (length rows))) × (last ≡ rows_after P (held S) rows)

-- ---- a state with its trail; fir_trail_start is `Started`, fir_trail_change `ChangesOn`

-- fir_trail_step
abbrev pub TrailStepCall : List ℕ → List ℕ → FirSaid → FirState → FirTrail → FirState → FirTrail → Type 0
TrailStepCall image table r S T S' T' = StepsOn r (program_in image table) S T S' T'

-- fir_trail_budget
abbrev pub TrailBudgetCall : List ℕ → List ℕ → ℕ → FirAnswer → FirState → FirTrail → FirState → FirTrail → List ℤ → List ℤ → Type 0
TrailBudgetCall image table n r S T S' T' buffer last = AnswersOn r (program_in image table) n S T S' T' buffer last

-- fir_trail_back
abbrev pub TrailBackCall : List ℕ → List ℕ → FirEntry → FirState → FirTrail → FirState → FirTrail → Type 0
TrailBackCall image table r S T S' T' = BacksOn r (program_in image table) S T S' T'

-- ---- a state under the number i of a pool; fir_pool_make is `MakesIn`

-- fir_pool_begin
abbrev pub PoolBeginCall : List ℕ → List ℕ → ℕ → ℕ → ℕ → List ℤ → List ℤ → Pool → ℕ → FirEntry → FirState → FirState → Pool → Type 0
PoolBeginCall image table level f v words buffer p i r S S' p' = BeginsIn r (program_in image table) (entrance level f v) words buffer p i S S' p'

-- fir_pool_step
abbrev pub PoolStepCall : List ℕ → List ℕ → Pool → ℕ → FirTurn → FirState → FirState → Pool → Type 0
PoolStepCall image table p i r S S' p' = StepsIn r (program_in image table) p i S S' p'

-- fir_pool_budget
abbrev pub PoolBudgetCall : List ℕ → List ℕ → ℕ → Pool → ℕ → FirAnswer → FirState → FirState → Pool → List ℤ → List ℤ → Type 0
PoolBudgetCall image table n p i r S S' p' buffer last = AnswersIn r (program_in image table) n p i S S' p' buffer last

-- fir_pool_run: a begin and its first budget
abbrev pub PoolRunCall : List ℕ → List ℕ → ℕ → ℕ → ℕ → List ℤ → ℕ → Pool → ℕ → FirAnswer → FirState → FirState → Pool → List ℤ → List ℤ → Type 0
PoolRunCall image table level f v words n p i r S S' p' buffer last = RunsIn r (program_in image table) (entrance level f v) words n p i S S' p' buffer last

-- fir_pool_change, which is lent the state and the pool to read
abbrev pub PoolChangeCall : List ℕ → List ℕ → Pool → ℕ → FirEntry → FirState → Type 0
PoolChangeCall old new p i r S = r ≡ grant_numbers (pool_change p i old new (held S))
