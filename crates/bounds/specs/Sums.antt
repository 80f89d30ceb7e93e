-- Sums that stop at 4,294,967,296: what the code keeps of a bound, and all that a report reads of it.
use Rattle.std.specs.Prelude.{cond, ℕ, ltb}

-- the least number that reads "large"
abbrev pub LIMIT : ℕ
LIMIT = 4294967296

-- n, or that number where n is more
unfoldable pub cap : ℕ → ℕ
cap n = cond (ltb n LIMIT) n LIMIT
