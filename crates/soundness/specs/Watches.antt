-- 02, request 11: what is shown of the topmost call of a run of demand 3. The statements alone.
use Rattle.std.specs.Prelude.{◌≡◌, List, false, ℕ, ◌<◌, ℤ, length, Ok}
use Rattle.std.proofs.Math.Option.{some}
use Rattle.std.proofs.Math.ListN.{get_elem?}
use Rattle.program.specs.Program.{Version, Program}
use Rattle.machine.specs.Try.{got}
use Rattle.machine.specs.States.{items_of, register}
use Rattle.machine.specs.Begin.{begin_of}
use Rattle.machine.specs.Events.{Run, Event, program_in, after}
use Rattle.machine.specs.Trails.{run_now, visit_of, Move, visit_after}
use Rattle.machine.specs.Pools.{RUNS, over_reserved, fresh}
use Rattle.machine.specs.Houses.{Asked, opened, house_after}
use Rattle.machine.specs.Watches.{empty_row, integer_row, vector_row, promise_row, mark_in, newest, watch_of}
use Rattle.machine.specs.declared.Frame.{Frame}
use Rattle.machine.specs.declared.Row.{Row}
use Rattle.machine.specs.declared.State.{State}
use Rattle.machine.specs.declared.Value.{Value}
use Rattle.machine.specs.declared.Vector.{Vector}
use Rattle.soundness.specs.Claim.{entered, Declared, OfType, begun}

-- the record of a register of type t that holds this: nothing, the integer, the items of the vector that is there, or the mark of the promise that is there
pub data Shows (P : Program) (s : State) (t : ℕ) : Value → Row → Type 0 where
  shows_nothing : Shows P s t Value.Empty (empty_row t)
  shows_integer : (z : ℤ) → Shows P s t (Value.Integer z) (integer_row t z)
  shows_vector : (v : ℕ) (w : Vector) → get_elem? s.vectors v ≡ some w → Shows P s t (Value.Vector v) (vector_row t (items_of w))
  shows_promise : (p m : ℕ) → mark_in P s p ≡ got m → Shows P s t (Value.Promise p) (promise_row t m)

-- the register k of the newest frame: what it holds is of its declared type, and its record shows it
pub record ShowsRegister (P : Program) (s : State) (f : Frame) (k t : ℕ) : Type 0 where
  pub value : Value
  pub row : Row
  pub holds : register f k ≡ got value
  pub of_type : OfType P s t value
  pub shown : get_elem? (watch_of P s) k ≡ some row
  pub shows : Shows P s t value row

-- of the topmost call, which is the newest frame: one record per register of its version, in order
pub record ShowsCall (P : Program) (s : State) (f : Frame) (W : Version) : Type 0 where
  pub count : length (watch_of P s) ≡ length W.types
  pub each : (k t : ℕ) → Declared P f k t → ShowsRegister P s f k t

-- of a run with a live call: its newest frame, the version entered there, and what is shown of it
abbrev pub ShowsRun : Run → Type 0
ShowsRun r = 0 < r.state.calls → (g : Frame) × (newest r.state ≡ some g) × (W : Version) × (entered (program_in r) g ≡ some W) × ShowsCall (program_in r) r.state g W

-- After every list of steps, budgets and changes of every begun run, ended or not.
unfoldable pub Watched : Type 0
Watched =
    (image : List ℕ) (level f v : ℕ) (words buffer : List ℤ) → (begin_of image level f v words buffer).entry ≡ Ok tt → (events : List Event)
    → ShowsRun (after events (begun image level f v words buffer))

-- With its start kept, after every list of steps, budgets, changes and steps back
unfoldable pub WatchedBack : Type 0
WatchedBack =
    (image : List ℕ) (level f v : ℕ) (words buffer : List ℤ) → (begin_of image level f v words buffer).entry ≡ Ok tt → (moves : List Move)
    → ShowsRun (run_now (visit_after moves (visit_of (begun image level f v words buffer))))

-- and in the pool, of the run that a number has
unfoldable pub WatchedPool : Type 0
WatchedPool =
    (reserves : List ℕ) → length reserves ≡ RUNS → over_reserved reserves ≡ false → (l : List Asked) (i : ℕ) (r : Run) → (house_after l (opened (fresh reserves))).runs i ≡ some r
    → ShowsRun r
