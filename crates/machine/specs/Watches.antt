-- 02, request 11: the registers of the topmost call, as records for a service screen.
use Rattle.std.specs.Prelude.{List, [], ◌∷◌, true, false, ℕ, ◌+◌, ◌-◌, ℤ, pos, length, replicate, take, leb, Err, Ok, Result}
use Rattle.std.proofs.Math.Option.{Option, none, some}
use Rattle.std.proofs.Math.ListN.{get_elem?}
use Rattle.layout.specs.Bounds.{REGISTERS}
use Rattle.program.specs.Program.{Version, Program, find_version}
use Rattle.machine.specs.Try.{Try, got, stuck, stop, or_stuck, at, ◌>>=◌}
use Rattle.machine.specs.States.{ITEMS, items_of, live_frames, over, register}
use Rattle.machine.specs.declared.Frame.{Frame}
use Rattle.machine.specs.declared.Row.{Row}
use Rattle.machine.specs.declared.State.{State}
use Rattle.machine.specs.declared.Value.{Value}
use Rattle.machine.specs.declared.Vector.{Vector}
use Rattle.machine.specs.declared.Denial.{Denial}
use Rattle.machine.specs.Denials.{denied}

-- ---- one record: the declared type, what is held, and 0 in all other numbers

-- 16 items, each 0
abbrev pub zeros : List ℤ
zeros = replicate ITEMS (pos 0)

-- 0: nothing
abbrev pub empty_row : ℕ → Row
empty_row t = record { integer = pos 0; items = zeros; declared = t; holds = 0; length = 0; mark = 0 }

-- 1: the integer
abbrev pub integer_row : ℕ → ℤ → Row
integer_row t z = record { integer = z; items = zeros; declared = t; holds = 1; length = 0; mark = 0 }

-- 2: the vector's length and items, 0 behind them
abbrev pub vector_row : ℕ → List ℤ → Row
vector_row t xs = record { integer = pos 0; items = over xs zeros; declared = t; holds = 2; length = length xs; mark = 0 }

-- 3: the promise's mark
abbrev pub promise_row : ℕ → ℕ → Row
promise_row t m = record { integer = pos 0; items = zeros; declared = t; holds = 3; length = 0; mark = m }

-- the items at the place of a vector; none where the state has no such place
unfoldable pub items_at : Option Vector → List ℤ
items_at none = []
items_at (some w) = items_of w

-- the mark of a promise: that of its block, in the version of its frame
unfoldable pub mark_in : Program → State → ℕ → Try ℕ
mark_in P s p = do
  q ← at s.promises p
  f ← at (live_frames s) q.frame
  W ← or_stuck (find_version P f.function f.version)
  B ← at W.blocks q.block
  got B.mark

-- 0 where the state or its image has no such promise
unfoldable pub or_zero : Try ℕ → ℕ
or_zero (got m) = m
or_zero stuck = 0
or_zero (stop e) = 0

-- the record of a register of type t, by what it holds
unfoldable pub row_of : Program → State → ℕ → Value → Row
row_of P s t Value.Empty = empty_row t
row_of P s t (Value.Integer z) = integer_row t z
row_of P s t (Value.Vector v) = vector_row t (items_at (get_elem? s.vectors v))
row_of P s t (Value.Promise p) = promise_row t (or_zero (mark_in P s p))

-- ---- the list

-- a register that the frame has not is as one that holds nothing
unfoldable pub or_empty : Try Value → Value
or_empty (got v) = v
or_empty stuck = Value.Empty
or_empty (stop e) = Value.Empty

-- one record per type, in order, from the register r on
unfoldable pub rows_from : Program → State → Frame → ℕ → List ℕ → List Row
rows_from P s f r [] = []
rows_from P s f r (t ∷ ts) = row_of P s t (or_empty (register f r)) ∷ rows_from P s f (r + 1) ts

-- one per register of the frame's version; a frame has 16 places, and a version of an accepted image declares no more
unfoldable pub rows_of : Program → State → Frame → Option Version → List Row
rows_of P s f none = []
rows_of P s f (some W) = rows_from P s f 0 (take REGISTERS W.types)

-- by the frame, where there is one
unfoldable pub rows_at : Program → State → Option Frame → List Row
rows_at P s none = []
rows_at P s (some f) = rows_of P s f (find_version P f.function f.version)

-- the newest frame, also while a block of an older one is forced; none with no live call
abbrev pub newest : State → Option Frame
newest s = get_elem? (live_frames s) (s.calls - 1)

-- 02, request 11: the records of the topmost call
unfoldable pub watch_of : Program → State → List Row
watch_of P s = rows_at P s (newest s)

-- ---- into a lent list

-- how many are filled of a list of n records; 22, at 0, where it is too short
unfoldable pub watched_of : Program → State → ℕ → Result ℕ Denial
watched_of P s n = elim (leb (length (watch_of P s)) n) [ true ↦ Ok (length (watch_of P s)) | false ↦ Err (denied 22 0) ]

-- the list after it: records past the last register are untouched; all of them where it is too short
unfoldable pub rows_after : Program → State → List Row → List Row
rows_after P s rows = elim (leb (length (watch_of P s)) (length rows)) [ true ↦ over (watch_of P s) rows | false ↦ rows ]
