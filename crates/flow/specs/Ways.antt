-- The ways of a block's walk as the code has them: an array with a place for each instruction and for the end.
use Rattle.std.specs.Prelude.{List, cond, ℕ, zero, suc, ◌+◌, take, drop, get_or, set, leb}
use Rattle.std.proofs.Math.Option.{Option, none, some}
use Rattle.layout.specs.Tests.{◌and◌}
use Rattle.rules.specs.Actions.{Action, ◌then◌, Walk, join}

-- of a block with `count` instructions, those from the place i on
unfoldable pub ways_at : List (Option Action) → ℕ → ℕ → List (Option Action)
ways_at ways count i = drop i (take (count + 1) ways)

-- the walk at the place i
abbrev pub walk_at : Option Action → List (Option Action) → ℕ → ℕ → Walk
walk_at done ways count i = record { done = done; ways = ways_at ways count i }

-- what was done before the instruction i, on all ways
unfoldable pub here_at : Option Action → List (Option Action) → ℕ → ℕ → Option Action
here_at done ways count i = cond (leb i count) (join done (get_or ways i none)) done

-- what is done behind an instruction at the place i, where `now` was done with it, by what it may pass over
unfoldable pub goes_on : Option ℕ → ℕ → ℕ → Option Action → Option Action
goes_on none count i now = now
goes_on (some n) count i now = cond (leb (i + 1 + n) count) now none

-- and the ways then
unfoldable pub opened : Option ℕ → ℕ → ℕ → Option Action → List (Option Action) → List (Option Action)
opened none count i now ways = ways
opened (some n) count i now ways = cond (leb (i + 1 + n) count) (set ways (i + 1 + n) (join now (get_or ways (i + 1 + n) none))) ways

-- what an instruction may pass over, as the code has it: 0 for nothing, n + 1 for n
unfoldable pub skip_in : ℕ → Option ℕ
skip_in zero = none
skip_in (suc n) = some n

-- where the array has the ways to the place i: the entry 50, which is never written, where the block has no such place
unfoldable pub place_in : ℕ → ℕ → ℕ
place_in count i = cond (leb i count and leb i 48) i 50

-- where it has those to which an instruction at the place i leads: the entry 49, which is never read, where it leads nowhere else
unfoldable pub target_of : Option ℕ → ℕ → ℕ → ℕ
target_of none count i = 49
target_of (some n) count i = cond (leb (i + 1 + n) count and leb (i + 1 + n) 48) (i + 1 + n) 49
