-- A run of a loaded image from the start.
use Rattle.std.specs.Prelude.{List, ℕ, ℤ}
use Rattle.machine.specs.Begin.{entered_of, run_after_to}
use Rattle.machine.specs.declared.Ran.{Ran}
use Rattle.loaded.specs.Loaded.{program_in}

-- it is begun, with no question to the image, and gets its first budget
unfoldable pub run_in_to : ℕ → List ℕ → List ℕ → ℕ → ℕ → ℕ → List ℤ → ℕ → List ℤ → Ran
run_in_to R s t level f w words n buffer = let b = entered_of (program_in s t) level f w words buffer in run_after_to R b.entry (program_in s t) b.state n buffer
