-- What fir_watch answers and leaves after every list of calls: the statements alone.
use Rattle.std.specs.Prelude.{◌≡◌, List, ℕ, ℤ, length}
use Rattle.std.proofs.Math.Option.{some}
use Rattle.machine.specs.Events.{Run, Event, program_in}
use Rattle.machine.specs.Pools.{RUNS}
use Rattle.machine.specs.Watches.{rows_after, watched_of}
use Rattle.machine.specs.declared.Pool.{Pool}
use Rattle.machine.specs.declared.Row.{Row}
use Rattle.runs.specs.Watches.{Fills}
use Rattle.soundness.specs.Watches.{ShowsRun}
use Rattle.abi.specs.Answers.{watched_numbers}
use Rattle.abi.specs.Calls.{WatchCall}
use Rattle.abi.specs.Pools.{MakesIn}
use Rattle.abi.specs.Trails.{Started}
use Rattle.abi.specs.declared.answers.FirEntry.{FirEntry}
use Rattle.abi.specs.declared.answers.FirWatched.{FirWatched}
use Rattle.abi.specs.declared.state.FirState.{FirState}
use Rattle.abi.specs.declared.state.FirTrail.{FirTrail}
use Rattle.sessions.specs.Lent.{Starts, TableOf, run_in}
use Rattle.sessions.specs.Lists.{Call, Session}
use Rattle.sessions.specs.Trails.{TrailCall, TrailSession}
use Rattle.sessions.specs.Pools.{Host, PoolCall, PoolSession, vacant}

-- of a run: the answer and the list are told by its image and state, the list is filled as a screen needs it, and each record shows a value of the declared type
pub record Watches (r : Run) (w : FirWatched) (rows last : List Row) : Type 0 where
  pub numbers : w ≡ watched_numbers (watched_of (program_in r) r.state (length rows))
  pub list : last ≡ rows_after (program_in r) r.state rows
  pub fills : Fills (program_in r) r.state rows
  pub shows : ShowsRun r

-- every call of fir_watch on a state, lent the image in force with a table that it was loaded into
abbrev pub WatchesAll : List ℕ → FirState → Type 0
WatchesAll image S = (table : List ℕ) (w : FirWatched) (rows last : List Row) → TableOf image table → WatchCall image table w S rows last → Watches (run_in image S) w rows last

-- After a start and every list of calls
unfoldable pub WatchedInC : Type 0
WatchedInC =
    (image : List ℕ) (level f v : ℕ) (words buffer : List ℤ) (S : FirState) (first : List Event) → Starts image level f v words buffer S first
    → (cs : List Call) (end : List ℕ) (U : FirState) → Session image S cs end U → WatchesAll end U

-- with a trail from anywhere on
unfoldable pub WatchedBackInC : Type 0
WatchedBackInC =
    (image : List ℕ) (level f v : ℕ) (words buffer : List ℤ) (S : FirState) (first : List Event) → Starts image level f v words buffer S first
    → (cs : List Call) (now : List ℕ) (S' : FirState) → Session image S cs now S'
    → (T : FirTrail) → Started S' T → (ds : List TrailCall) (end : List ℕ) (U : FirState) (T' : FirTrail) → TrailSession now S' T ds end U T' → WatchesAll end U

-- and in a pool, of each number that has a run
unfoldable pub WatchedPoolInC : Type 0
WatchedPoolInC =
    (reserves : List ℕ) (before p : Pool) (r : FirEntry) → length reserves ≡ RUNS → MakesIn r reserves before p → r.question ≡ 0
    → (states : ℕ → FirState) (cs : List PoolCall) (end : Host) → PoolSession (vacant p states) cs end
    → (i : ℕ) (image : List ℕ) → end.images i ≡ some image → WatchesAll image (end.states i)
