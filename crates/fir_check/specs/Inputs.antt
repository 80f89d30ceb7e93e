-- What became of standard input.
use Rattle.std.specs.Prelude.{ℕ, ◌≤◌, ◌<◌, ◌≡◌, List, take, drop, length, Option}
use Rattle.std.specs.Io.KnownBytes.{Consumes, IsAtEnd}
use Rattle.fir_check.specs.declared.Input.{Input}

-- a whole input lies within a room of so many places
unfoldable pub Fits : Input → ℕ → Type 0
Fits (Input.Whole n) room = n ≤ room
Fits Input.Failed room = Unit {0}

-- a whole input, read behind n places that stay as they were, is what the reader gave; where room is left, the reader is at its end
unfoldable pub Reads : Input → ℕ → List ℕ → List ℕ → Option (List ℕ) → Option (List ℕ) → Type 0
Reads (Input.Whole m) n before after left rest = (n ≤ m) × (take n after ≡ take n before) × Consumes left rest (drop n (take m after)) × (m < length after → IsAtEnd rest)
Reads Input.Failed n before after left rest = Unit {0}
