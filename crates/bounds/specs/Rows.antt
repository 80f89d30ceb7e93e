-- What is written of a report: of the row i its numbers at 2 × i and 2 × i + 1 of one array, and its bound at i of another.
use Rattle.std.specs.Prelude.{List, [], ◌∷◌, cond, ℕ, zero, suc, ◌+◌, ◌*◌, ◌/◌, ◌%◌, length, set, Err, Ok, Result}
use Rattle.layout.specs.Bounds.{VERSIONS}
use Rattle.program.specs.Program.{Program}
use Rattle.checker.specs.Verdicts.{verdict_of, Verdict}
use Rattle.machine.specs.Begin.{program_of}
use Rattle.bounds.specs.Bounds.{Bound, steps, large, unbounded, Entry, report}
use Rattle.bounds.specs.Counts.{open_at}
use Rattle.bounds.specs.Sums.{LIMIT}
use Rattle.checker.specs.declared.Refusal.{Refusal}

-- a bound as a number: "large" is the least that is too large, none is one more
unfoldable pub code_of : Bound → ℕ
code_of (steps n) = n
code_of large = LIMIT
code_of unbounded = LIMIT + 1

-- the array of numbers with these entries from the row i on, all else as it was
unfoldable pub numbers_after : List ℕ → ℕ → List Entry → List ℕ
numbers_after out i [] = out
numbers_after out i (e ∷ es) = numbers_after (set (set out (2 * i) e.function) (2 * i + 1) e.version) (i + 1) es

-- the array of bounds
unfoldable pub steps_after : List ℕ → ℕ → List Entry → List ℕ
steps_after out i [] = out
steps_after out i (e ∷ es) = steps_after (set out i (code_of e.bound)) (i + 1) es

-- of n places of the table from k on, the entries of those that are not listed
unfoldable pub rest_from : List ℕ → List ℕ → ℕ → ℕ → List Entry
rest_from s known zero k = []
rest_from s known (suc n) k =
    let more = rest_from s known n (k + 1) in
    cond (open_at s known k) (record { function = k / VERSIONS; version = k % VERSIONS; bound = unbounded } ∷ more) more

-- ---- behind the questions to an image

-- how many rows, or the image's refusal as it is
unfoldable pub listing : Verdict → Program → Result ℕ Refusal
listing (Ok n) P = Ok (length (report P))
listing (Err why) P = Err why

-- 02, 12: what becomes of an image
unfoldable pub bounds_of : List ℕ → Result ℕ Refusal
bounds_of image = listing (verdict_of image) (program_of image)

-- an array that a refusal leaves as it was
unfoldable pub unless : Result ℕ Refusal → List ℕ → List ℕ → List ℕ
unless (Ok n) old new = new
unless (Err why) old new = old
