-- What loading answers, and what the table stands for behind it.
use Rattle.std.specs.Prelude.{◌≡◌, List, [], cond, ℕ, ◌+◌, ◌*◌, ◌/◌, length, ltb, Err, Ok, Result}
use Rattle.program.specs.Program.{find_version}
use Rattle.checker.specs.Verdicts.{verdict_of, Verdict}
use Rattle.machine.specs.Begin.{program_of}
use Rattle.loaded.specs.Loaded.{RECORDS, program_in}
use Rattle.loaded.specs.declared.LoadError.{LoadError}
use Rattle.loaded.specs.declared.LoadError.TheVariants.{Short, Refused}

-- how many bytes a table for an image of n bytes must have, whatever its records: no block and no instruction has fewer than 6 bytes, so they hold all of them
abbrev pub bytes_for : ℕ → ℕ
bytes_for n = RECORDS + 8 * (n / 6)

-- the answer by the verdict, for a table of m bytes
unfoldable pub answered : Verdict → ℕ → ℕ → Result ℕ LoadError
answered (Ok k) n m = cond (ltb m (bytes_for n)) (Err (Short (bytes_for n))) (Ok k)
answered (Err why) n m = Err (Refused why)

-- the answer to an image, for a table of m bytes
abbrev pub load_of : List ℕ → ℕ → Result ℕ LoadError
load_of s m = answered (verdict_of s) (length s) m

-- what image and table stand for behind it: the image's program, version by version, or none
unfoldable pub Stands : List ℕ → List ℕ → Result ℕ LoadError → Type 0
Stands s t (Ok k) = (f w : ℕ) → find_version (program_in s t) f w ≡ find_version (program_of s) f w
Stands s t (Err e) = program_in s t ≡ []
