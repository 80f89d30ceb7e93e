-- 02, 13: bounds of 12) agree as well: what is promised of a join that was written. The statements alone.
use Rattle.std.specs.Prelude.{◌≡◌, List, ◌++◌, map, ℕ, ◌+◌, ◌≤◌, ◌<◌, Ok}
use Rattle.std.proofs.Math.Option.{Option, none, some}
use Rattle.program.specs.Program.{Version, Program, find_version}
use Rattle.machine.specs.Begin.{program_of}
use Rattle.bounds.specs.Bounds.{Bound, bound_of, by_number, bounded, unlisted, Entry, entry_of, none_of, report}
use Rattle.joins.specs.Joins.{functions_in, joined, join_of}

-- the bound of what is found, if it is
unfoldable pub bound_found : Program → Option Version → Option Bound
bound_found P none = none
bound_found P (some v) = some (bound_of P v)

-- the bound of the version f.w of an image: a number, large, or unbounded; none where there is no such version
abbrev pub bound_at : List ℕ → ℕ → ℕ → Option Bound
bound_at image f w = bound_found (program_of image) (find_version (program_of image) f w)

-- an entry of the report, under the new number of its function
abbrev pub raise_entry : ℕ → Entry → Entry
raise_entry k e = record { function = k + e.function; version = e.version; bound = e.bound }

-- of the report of an image: the entries with a bound, or "large", and those with none
abbrev pub with_bound : List ℕ → List Entry
with_bound image = map entry_of (bounded (program_of image))

abbrev pub with_none : List ℕ → List Entry
with_none image = map none_of (unlisted (bounded (program_of image)) (by_number (program_of image)))

pub record SameBounds (a b : List ℕ) : Type 0 where
  -- each version of the first under its number, and of the second under its new number, has the bound that it has alone
  pub first : (f w : ℕ) → f < functions_in a → bound_at (joined a b) f w ≡ bound_at a f w
  pub second : (f w : ℕ) → f < functions_in b → bound_at (joined a b) (functions_in a + f) w ≡ bound_at b f w
  -- and there is no other
  pub others : (f w : ℕ) → functions_in a + functions_in b ≤ f → bound_at (joined a b) f w ≡ none
  -- so the report has the entries of both reports and no other: those with a bound of the first, of the second,
  -- then those with none of the first, of the second, each in the order that they have alone
  pub order : report (program_of (joined a b)) ≡ (with_bound a ++ map (raise_entry (functions_in a)) (with_bound b)) ++ (with_none a ++ map (raise_entry (functions_in a)) (with_none b))

-- of any two images and any lent buffer
unfoldable pub BoundsAgree : Type 0
BoundsAgree = (a b : List ℕ) (room n : ℕ) → join_of a b room ≡ Ok n → SameBounds a b
