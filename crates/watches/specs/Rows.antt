-- 02, request 11: the records of the topmost call, as the code finds and writes them.
use Rattle.std.specs.Prelude.{List, [], ◌≡◌, ℕ, ◌<◌, ℤ, get_or, take, None, Some, Option, Err, Ok, Result}
use Rattle.layout.specs.Bounds.{REGISTERS}
use Rattle.machine.specs.Watches.{empty_row, rows_from, watch_of, zeros}
use Rattle.machine.specs.declared.Row.{Row}
use Rattle.store.specs.Store.{frame_in, state_in}
use Rattle.loaded.specs.Loaded.{program_in, version_in}
use Rattle.watches.specs.declared.Top.{Top}
use Rattle.machine.specs.declared.Denial.{Denial}

-- a record without items
abbrev pub plain_row : ℕ → ℕ → ℤ → ℕ → Row
plain_row t h z m = record { integer = z; items = zeros; declared = t; holds = h; length = 0; mark = m }

-- the record at a place; all zero past the last
abbrev pub row_at : List Row → ℕ → Row
row_at rows k = get_or rows k (empty_row 0)

-- how many records are written, by the answer: none where it is a refusal
unfoldable pub filled_by : Result ℕ Denial → ℕ
filled_by (Ok k) = k
filled_by (Err why) = 0

-- the topmost call by the table t and the bytes b, whatever image and numbers there are
unfoldable pub Tops : Option Top → List ℕ → List ℕ → Type 0
Tops None t b = (s : List ℕ) (n : List ℤ) → watch_of (program_in s t) (state_in b n) ≡ []
Tops (Some top) t b =
    (top.frame < 32)
    × ((s : List ℕ) (n : List ℤ) → watch_of (program_in s t) (state_in b n) ≡ rows_from (program_in s t) (state_in b n) (frame_in b n top.frame) 0 (take REGISTERS (version_in s t top.own).types))
