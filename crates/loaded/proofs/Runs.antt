-- A loaded image runs as its program: begins, steps, budgets, steps back, searches, positions and records of the topmost call are the same, for every state, in a pool too.
use Rattle.std.specs.Prelude.{Err, Ok, Result}
use mathlib.Core.Path.{◌≡◌, refl, sym, ap, ap₂, ◌∙◌}
use mathlib.Core.List.{List, [], ◌∷◌}
use mathlib.Core.Bool.{Bool, true, false}
use mathlib.Core.Option.{Option, none, some}
use Prim.Native.Nat.{ℕ, zero, suc, ◌+◌, ◌-◌}
use native.Mathlib.Omega.{arith}
use lib.IntN.{ℤ}
use lib.ListN.{length, take}
use lib.Dec.{leb}
use Rattle.layout.specs.Bounds.{REGISTERS, VERSIONS}
use Rattle.layout.specs.Tests.{◌and◌, found}
use Rattle.program.specs.Program.{Argument, Instr, LIT, MOVE, USE, DUP, VEC, LEN, GET, SET, ARITH, SELECT, CAST, NAMED, STORE, PROM, FORCE, PEEK, POKE, CALL, DISPATCH, SKIP, Program}
use Rattle.program.specs.Program.{Version, find_version}
use Rattle.checker.specs.Verdicts.{verdict_of, Verdict}
use Rattle.machine.specs.Allowed.{vectors_in, needs_vector, execute_with, proceed_with, advance_with, step_in_with, step_with, run_with, budget_in_with, budget_with}
use Rattle.machine.specs.Begin.{begin_after, begin_of, entered_of, program_of, run_after_to, run_of_to}
use Rattle.machine.specs.Calls.{dispatches, finish, looked, passed, present, searched, versions_of}
use Rattle.machine.specs.Pools.{PoolBegun, PoolRan, PoolStepped, allowed, noted, noted_after, pool_begin, pool_begun_by, pool_budget, pool_run_as, pool_run_by, pool_step, refuses21, said_in_pool}
use Rattle.machine.specs.Runs.{budget_in_to, budget_of_to, continued, long_enough, run_from_to, settled, step_in_to, step_of_to}
use Rattle.machine.specs.Searches.{kinds_of, looked_by, search_at, search_by, search_from, search_of}
use Rattle.machine.specs.States.{kind_in, live_activations, live_frames, over, register, value}
use Rattle.machine.specs.Steps.{Here, Position, instruction, block_end, outside, execute, here, position_of, proceed_to, registers_of}
use Rattle.machine.specs.Trails.{back_by, back_of, budget_on, step_on}
use Rattle.machine.specs.Try.{Try, got, stuck, stop, ◌>>=◌, at, each}
use Rattle.machine.specs.Values.{RANGE}
use Rattle.machine.specs.Watches.{mark_in, newest, or_empty, or_zero, promise_row, row_of, rows_after, rows_at, rows_from, rows_of, watch_of, watched_of}
use Rattle.machine.specs.declared.Activation.{Activation}
use Rattle.machine.specs.declared.Answer.{Answer}
use Rattle.machine.specs.declared.Begun.{Begun}
use Rattle.machine.specs.declared.Behind.{Behind}
use Rattle.machine.specs.declared.End.{End}
use Rattle.machine.specs.declared.Frame.{Frame}
use Rattle.machine.specs.declared.Opener.{Opener}
use Rattle.machine.specs.declared.Pool.{Pool}
use Rattle.machine.specs.declared.PoolSaid.{PoolSaid}
use Rattle.machine.specs.declared.Ran.{Ran}
use Rattle.machine.specs.declared.Returned.{Returned}
use Rattle.machine.specs.declared.Row.{Row}
use Rattle.machine.specs.declared.Search.{Search}
use Rattle.machine.specs.declared.State.{State}
use Rattle.machine.specs.declared.Status.{Status}
use Rattle.machine.specs.declared.Stepped.{Stepped}
use Rattle.machine.specs.declared.Trail.{Trail}
use Rattle.machine.specs.declared.Value.{Value}
use Rattle.runs.specs.Alike.{AllAlike, bare_of}
use Rattle.runs.proofs.Alike.{advance-alike, alike_self, bind-same, entered-alike, execute-alike, kind-alike}
use Rattle.loaded.specs.Loaded.{program_in}
use Rattle.loaded.specs.Loading.{Stands, answered, load_of}
use Rattle.loaded.specs.Running.{run_in_to}
use Rattle.machine.specs.declared.Denial.{Denial}
use Rattle.machine.specs.Denials.{denied, Grant}

-- two programs with the same versions under the same numbers, offsets too
module _ (P Q : Program) (h : (f w : ℕ) → find_version P f w ≡ find_version Q f w) where
  pub alike : AllAlike P Q
  unfolding AllAlike
  alike = λ f w. ap bare_of (h f w)

  -- where a run stands: `where_of` looks at nothing else
  pub here-same : (x : State) → here P x ≡ here Q x
  unfolding here
  here-same x = bind-same (at (live_activations x) (x.depth - 1)) _ _ (λ a. bind-same (at (live_frames x) a.frame) _ _ (λ f. rw (h f.function f.version) refl))

  module _ (R : ℕ) where
    pub step_same : (x : State) → step_of_to R P x ≡ step_of_to R Q x
    unfolding step_of_to step_in_to
    step_same x = go x.status
      where
        go : (st : Status) → step_in_to R P x st ≡ step_in_to R Q x st
        go Status.Running = ap (settled x) (advance-alike R P Q alike x)
        go (Status.Ended e) = refl

    run-same : (n : ℕ) (x : State) (m : ℕ) → run_from_to R P n x m ≡ run_from_to R Q n x m
    unfolding run_from_to
    run-same zero x m = refl
    run-same (suc n) x m = rw (step_same x) (ap (continued (step_of_to R Q x).state (step_of_to R Q x).said m) (λ i t. run-same n t (m + 1) i))

    in-same : (x : State) (n : ℕ) (st : Status) → budget_in_to R P x n st ≡ budget_in_to R Q x n st
    unfolding budget_in_to
    in-same x n Status.Running = run-same n x 0
    in-same x n (Status.Ended e) = refl

    pub budget-same : (x : State) (n : ℕ) (buffer : List ℤ) → budget_of_to R P x n buffer ≡ budget_of_to R Q x n buffer
    unfolding budget_of_to
    budget-same x n buffer = ap (λ (r : Ran). elim (long_enough buffer) [ true ↦ r | false ↦ record { state = x; answer = Answer.Refused 13 0; steps = 0 } ]) (in-same x n x.status)

  -- a state with its start kept
  pub step-on-same : (t : Trail) → step_on P t ≡ step_on Q t
  unfolding step_on
  step-on-same t = rw (step_same RANGE t.state) refl

  pub budget-on-same : (t : Trail) (n : ℕ) (buffer : List ℤ) → budget_on P t n buffer ≡ budget_on Q t n buffer
  unfolding budget_on
  budget-on-same t n buffer = rw (budget-same RANGE t.state n buffer) refl

  pub back-same : (t : Trail) → back_of P t ≡ back_of Q t
  unfolding back_of back_by
  back-same t = go t.behind
    where
      again : ℕ → Ran → Returned
      again m r = record { trail = record { start = t.start; behind = Behind.Steps m; state = r.state }; back = Ok tt }

      go : (b : Behind) → back_by P t b ≡ back_by Q t b
      go Behind.Past = refl
      go (Behind.Steps zero) = refl
      go (Behind.Steps (suc m)) = ap (again m) (in-same RANGE t.start m t.start.status)

  -- a search
  looked-same : (f : ℕ) (passes : Version → Bool) (n w : ℕ) → looked P f passes n w ≡ looked Q f passes n w
  unfolding looked
  looked-same f passes zero w = refl
  looked-same f passes (suc n) w =
      ap (λ (o : Option Version). elim (found o passes) [ true ↦ 1 | false ↦ present o + looked P f passes n (suc w) ]) (h f w)
      ∙ ap (λ (m : ℕ). elim (found (find_version Q f w) passes) [ true ↦ 1 | false ↦ present (find_version Q f w) + m ]) (looked-same f passes n (suc w))

  kinds-same : (x : State) (vs : List Value) → each (kind_in P x) vs ≡ each (kind_in Q x) vs
  unfolding each
  kinds-same x [] = refl
  kinds-same x (v ∷ vs) = rw (kind-alike 0 P Q alike x v, kinds-same x vs) refl

  looked-by-same : (level f mark ret : ℕ) (pairs : List Argument) (ks : Try (List ℕ)) → looked_by P level f mark ret pairs ks ≡ looked_by Q level f mark ret pairs ks
  unfolding looked_by searched versions_of
  looked-by-same level f mark ret pairs (got ks) = let a = looked-same f (dispatches level mark ret pairs ks) VERSIONS 0 in let b = looked-same f
      (λ W. false) VERSIONS 0 in λ i. Search.Looked (a i) (b i)
  looked-by-same level f mark ret pairs stuck = refl
  looked-by-same level f mark ret pairs (stop e) = refl

  search-by-same : (x : State) (f : Frame) (level : ℕ) (i : Instr) → search_by P x f level i ≡ search_by Q x f level i
  unfolding search_by kinds_of
  search-by-same x f level (LIT d i) = refl
  search-by-same x f level (MOVE d a) = refl
  search-by-same x f level (USE d a) = refl
  search-by-same x f level (DUP d a) = refl
  search-by-same x f level (VEC d rs) = refl
  search-by-same x f level (LEN d a) = refl
  search-by-same x f level (GET d a i) = refl
  search-by-same x f level (SET a i e) = refl
  search-by-same x f level (ARITH d op a b) = refl
  search-by-same x f level (SELECT d c a b) = refl
  search-by-same x f level (CAST d a) = refl
  search-by-same x f level (NAMED d y) = refl
  search-by-same x f level (STORE y a) = refl
  search-by-same x f level (PROM d block) = refl
  search-by-same x f level (FORCE d a) = refl
  search-by-same x f level (PEEK d a y) = refl
  search-by-same x f level (POKE a y e) = refl
  search-by-same x f level (CALL d g w rs) = refl
  search-by-same x f level (DISPATCH d g mark ret pairs) = ap (looked_by P level g mark ret pairs) (bind-same (each (value f) (registers_of pairs)) _ _ (λ vs. kinds-same x vs))
      ∙ looked-by-same level g mark ret pairs _
  search-by-same x f level (SKIP a n) = refl

  search-at-same : (x : State) (f : Frame) (level : ℕ) (p : Position) → search_at P x f level p ≡ search_at Q x f level p
  unfolding search_at
  search-at-same x f level (instruction i) = search-by-same x f level i
  search-at-same x f level block_end = refl
  search-at-same x f level outside = refl

  pub search-same : (x : State) → search_of P x ≡ search_of Q x
  unfolding search_of search_from
  search-same x = ap (search_from P x) (here-same x) ∙ go (here Q x)
    where
      go : (t : Try Here) → search_from P x t ≡ search_from Q x t
      go (got a) = search-at-same x a.frame a.version.level (position_of a)
      go stuck = refl
      go (stop e) = refl

  -- ---- the records of the topmost call: of the program, they read its versions alone

  mark-same : (x : State) (p : ℕ) → mark_in P x p ≡ mark_in Q x p
  unfolding mark_in
  mark-same x p = bind-same (at x.promises p) _ _ (λ q. bind-same (at (live_frames x) q.frame) _ _ (λ f. rw (h f.function f.version) refl))

  row_same : (x : State) (t : ℕ) (v : Value) → row_of P x t v ≡ row_of Q x t v
  unfolding row_of
  row_same x t Value.Empty = refl
  row_same x t (Value.Integer z) = refl
  row_same x t (Value.Vector v) = refl
  row_same x t (Value.Promise p) = ap (λ (m : Try ℕ). promise_row t (or_zero m)) (mark-same x p)

  rows_same : (x : State) (f : Frame) (r : ℕ) (ts : List ℕ) → rows_from P x f r ts ≡ rows_from Q x f r ts
  unfolding rows_from
  rows_same x f r [] = refl
  rows_same x f r (t ∷ ts) = ap₂ ◌∷◌ (row_same x t (or_empty (register f r))) (rows_same x f (r + 1) ts)

  pub watch-same : (x : State) → watch_of P x ≡ watch_of Q x
  unfolding watch_of rows_at rows_of
  watch-same x = go (newest x)
    where
      version : (f : Frame) (o : Option Version) → rows_of P x f o ≡ rows_of Q x f o
      version f none = refl
      version f (some W) = rows_same x f 0 (take REGISTERS W.types)

      go : (o : Option Frame) → rows_at P x o ≡ rows_at Q x o
      go none = refl
      go (some f) = ap (rows_of P x f) (h f.function f.version) ∙ version f (find_version Q f.function f.version)

  pub watched-same : (x : State) (n : ℕ) → watched_of P x n ≡ watched_of Q x n
  unfolding watched_of
  watched-same x n = ap filled (watch-same x)
    where
      filled : List Row → Result ℕ Denial
      filled rows = elim (leb (length rows) n) [ true ↦ Ok (length rows) | false ↦ Err (denied 22 0) ]

  pub rows-after-same : (x : State) (rows : List Row) → rows_after P x rows ≡ rows_after Q x rows
  unfolding rows_after
  rows-after-same x rows = ap after (watch-same x)
    where
      after : List Row → List Row
      after new = elim (leb (length new) (length rows)) [ true ↦ over new rows | false ↦ rows ]

  -- ---- in a pool: steps and budgets of a run that may have so many vectors

  execute-same : (x : State) (k : ℕ) (f : Frame) (W : Version) (i : Instr) → execute P x k f W i ≡ execute Q x k f W i
  execute-same x k f W i = execute-alike RANGE P Q alike x k f W i ∙ sym (execute-alike RANGE Q Q (alike_self Q) x k f W i)

  finish-same : (x : State) (a : Activation) (W : Version) (v : Value) (o : Opener) → finish P x a W v o ≡ finish Q x a W v o
  unfolding finish
  finish-same x a W v Opener.Call = rw (kind-alike RANGE P Q alike x v) refl
  finish-same x a W v (Opener.Force p) = refl

  proceed-with-same : (most : ℕ) (x : State) (y : Here) (p : Position) → proceed_with most P x y p ≡ proceed_with most Q x y p
  unfolding proceed_with execute_with proceed_to
  proceed-with-same most x y (instruction i) = ap tried (execute-same (passed x y.activation) y.activation.frame y.frame y.version i)
    where
      u : State
      u = passed x y.activation

      tried : Try State → Try State
      tried t = elim (needs_vector u.vectors y.frame i and leb most (vectors_in u)) [ true ↦ stop End.Vectors | false ↦ t ]
  proceed-with-same most x y block_end = bind-same (value y.frame y.block.result) _ _ (λ v. finish-same x y.activation y.version v y.activation.opener)
  proceed-with-same most x y outside = refl

  advance-with-same : (most : ℕ) (x : State) → advance_with most P x ≡ advance_with most Q x
  unfolding advance_with
  advance-with-same most x =
      ap (λ (t : Try Here). t >>= λ (y : Here). proceed_with most P x y (position_of y)) (here-same x)
      ∙ bind-same (here Q x) _ _ (λ y. proceed-with-same most x y (position_of y))

  step-with-same : (most : ℕ) (x : State) → step_with most P x ≡ step_with most Q x
  unfolding step_with step_in_with
  step-with-same most x = go x.status
    where
      go : (st : Status) → step_in_with most P x st ≡ step_in_with most Q x st
      go Status.Running = ap (settled x) (advance-with-same most x)
      go (Status.Ended e) = refl

  run-with-same : (most n : ℕ) (x : State) (m : ℕ) → run_with most P n x m ≡ run_with most Q n x m
  unfolding run_with
  run-with-same most zero x m = refl
  run-with-same most (suc n) x m = rw (step-with-same most x) (ap (continued (step_with most Q x).state (step_with most Q x).said m) (λ i t. run-with-same most n t (m + 1) i))

  budget-with-same : (most : ℕ) (x : State) (n : ℕ) (buffer : List ℤ) → budget_with most P x n buffer ≡ budget_with most Q x n buffer
  unfolding budget_with budget_in_with
  budget-with-same most x n buffer = ap (λ (r : Ran). elim (long_enough buffer) [ true ↦ r | false ↦ record { state = x; answer = Answer.Refused 13 0; steps = 0 } ]) (go x.status)
    where
      go : (st : Status) → budget_in_with most P x n st ≡ budget_in_with most Q x n st
      go Status.Running = run-with-same most n x 0
      go (Status.Ended e) = refl

  pub pool-step-same : (p : Pool) (i : ℕ) (x : State) → pool_step P p i x ≡ pool_step Q p i x
  unfolding pool_step
  pool-step-same p i x = ap outcome (step-with-same (allowed p i) x)
    where
      outcome : Stepped → PoolStepped
      outcome r = elim (refuses21 p i) [
        | true ↦ record { pool = p; state = x; turn = PoolSaid.Refused 21 0 }
        | false ↦ record
            { pool = noted p i r.state; state = r.state; turn = said_in_pool r.said }
      ]

  pub pool-budget-same : (p : Pool) (i : ℕ) (x : State) (n : ℕ) (buffer : List ℤ) → pool_budget P p i x n buffer ≡ pool_budget Q p i x n buffer
  unfolding pool_budget
  pool-budget-same p i x n buffer = ap outcome (budget-with-same (allowed p i) x n buffer)
    where
      outcome : Ran → PoolRan
      outcome r = elim (refuses21 p i) [
        | true ↦ record { pool = p; ran = record { state = x; answer = Answer.Refused 21 0; steps = 0 } }
        | false ↦ record
            { pool = noted_after p i r r.answer; ran = r }
      ]

  -- a run that is begun
  pub entered-same : (level f w : ℕ) (words buffer : List ℤ) → entered_of P level f w words buffer ≡ entered_of Q level f w words buffer
  entered-same level f w words buffer = entered-alike P Q alike level f w words buffer

-- ---- behind a load that was ready

-- a run is begun without the questions to the image: they were asked
pub loaded-begin : (s t : List ℕ) (m n : ℕ) → load_of s m ≡ Ok n → Stands s t (Ok n) → (level f w : ℕ) (words buffer : List ℤ) → entered_of
    (program_in s t) level f w words buffer ≡ begin_of s level f w words buffer
unfolding Stands answered begin_of begin_after
loaded-begin s t m n e h level f w words buffer = entered-same (program_in s t) (program_of s) h level f w words buffer ∙ go (verdict_of s) e
  where
    go : (v : Verdict) → answered v (length s) m ≡ Ok n → entered_of (program_of s) level f w words buffer ≡ begin_after v (program_of s) level f w words buffer
    go (Ok k) g = refl
    go (Err why) g = let z : ◌≡◌ {A = ℕ} 0 1 = cc in absurd (omega arith)

module _ (s t : List ℕ) (n : ℕ) (h : Stands s t (Ok n)) where
  pub loaded-step : (R : ℕ) (x : State) → step_of_to R (program_in s t) x ≡ step_of_to R (program_of s) x
  unfolding Stands
  loaded-step R x = step_same (program_in s t) (program_of s) h R x

  pub loaded-budget : (R : ℕ) (x : State) (k : ℕ) (buffer : List ℤ) → budget_of_to R (program_in s t) x k buffer ≡ budget_of_to R (program_of s) x k buffer
  unfolding Stands
  loaded-budget R x k buffer = budget-same (program_in s t) (program_of s) h R x k buffer

  pub loaded-step-on : (x : Trail) → step_on (program_in s t) x ≡ step_on (program_of s) x
  unfolding Stands
  loaded-step-on x = step-on-same (program_in s t) (program_of s) h x

  pub loaded-budget-on : (x : Trail) (k : ℕ) (buffer : List ℤ) → budget_on (program_in s t) x k buffer ≡ budget_on (program_of s) x k buffer
  unfolding Stands
  loaded-budget-on x k buffer = budget-on-same (program_in s t) (program_of s) h x k buffer

  pub loaded-back : (x : Trail) → back_of (program_in s t) x ≡ back_of (program_of s) x
  unfolding Stands
  loaded-back x = back-same (program_in s t) (program_of s) h x

  pub loaded-search : (x : State) → search_of (program_in s t) x ≡ search_of (program_of s) x
  unfolding Stands
  loaded-search x = search-same (program_in s t) (program_of s) h x

  pub loaded-here : (x : State) → here (program_in s t) x ≡ here (program_of s) x
  unfolding Stands
  loaded-here x = here-same (program_in s t) (program_of s) h x

  -- the records of the topmost call
  pub loaded-watch : (x : State) → watch_of (program_in s t) x ≡ watch_of (program_of s) x
  unfolding Stands
  loaded-watch x = watch-same (program_in s t) (program_of s) h x

  pub loaded-watched : (x : State) (k : ℕ) → watched_of (program_in s t) x k ≡ watched_of (program_of s) x k
  unfolding Stands
  loaded-watched x k = watched-same (program_in s t) (program_of s) h x k

  pub loaded-rows : (x : State) (rows : List Row) → rows_after (program_in s t) x rows ≡ rows_after (program_of s) x rows
  unfolding Stands
  loaded-rows x rows = rows-after-same (program_in s t) (program_of s) h x rows

  -- in a pool
  pub loaded-pool-step : (p : Pool) (i : ℕ) (x : State) → pool_step (program_in s t) p i x ≡ pool_step (program_of s) p i x
  unfolding Stands
  loaded-pool-step p i x = pool-step-same (program_in s t) (program_of s) h p i x

  pub loaded-pool-budget : (p : Pool) (i : ℕ) (x : State) (k : ℕ) (buffer : List ℤ) → pool_budget (program_in s t) p i x k buffer ≡ pool_budget (program_of s) p i x k buffer
  unfolding Stands
  loaded-pool-budget p i x k buffer = pool-budget-same (program_in s t) (program_of s) h p i x k buffer

-- a start in a pool
pub loaded-pool-begin : (s t : List ℕ) (m n : ℕ) → load_of s m ≡ Ok n → Stands s t (Ok n) → (level f w : ℕ) (words buffer : List ℤ) (p : Pool) (i : ℕ)
    → pool_begun_by p i (entered_of (program_in s t) level f w words buffer) ≡ pool_begin s level f w words buffer p i
unfolding pool_begin
loaded-pool-begin s t m n e h level f w words buffer p i = ap (pool_begun_by p i) (loaded-begin s t m n e h level f w words buffer)

-- with its first budget
pub loaded-pool-run : (s t : List ℕ) (m n : ℕ) → load_of s m ≡ Ok n → Stands s t (Ok n) → (level f w : ℕ) (words buffer : List ℤ) (p : Pool) (i k : ℕ)
    → pool_run_by (program_in s t) p i (entered_of (program_in s t) level f w words buffer) k buffer ≡ pool_run_by (program_of s) p i (begin_of s level f w words buffer) k buffer
unfolding pool_run_as
loaded-pool-run s t m n e h level f w words buffer p i k = let b = begin_of s level f w words buffer in ap (λ (x : Begun). pool_run_by (program_in s t) p i x k buffer)
    (loaded-begin s t m n e h level f w words buffer) ∙ go (pool_begun_by p i b) (pool_begun_by p i b).begun.entry
  where
    go : (x : PoolBegun) (y : Grant) → pool_run_as (program_in s t) i k buffer x y ≡ pool_run_as (program_of s) i k buffer x y
    go x (Err why) = refl
    go x (Ok _) = loaded-pool-budget s t n h x.pool i x.begun.state k buffer

-- a run from the start
pub loaded-run : (s t : List ℕ) (m n : ℕ) → load_of s m ≡ Ok n → Stands s t (Ok n) → (R level f w : ℕ) (words : List ℤ) (k : ℕ) (buffer : List ℤ)
    → run_in_to R s t level f w words k buffer ≡ run_of_to R s level f w words k buffer
unfolding run_in_to run_of_to run_after_to
loaded-run s t m n e h R level f w words k buffer =
    let b = begin_of s level f w words buffer in
    ap (λ (x : Begun). run_after_to R x.entry (program_in s t) x.state k buffer) (loaded-begin s t m n e h level f w words buffer) ∙ go b.entry b.state
  where
    go : (x : Grant) (y : State) → run_after_to R x (program_in s t) y k buffer ≡ run_after_to R x (program_of s) y k buffer
    go (Err why) y = refl
    go (Ok _) y = loaded-budget s t n h R y k buffer
