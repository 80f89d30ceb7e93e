-- Request 4 of paper 02: what the count of a search is, the statement alone.
use Rattle.std.specs.Prelude.{◌≡◌, List, ℕ, ◌+◌, eqb, Ok}
use Rattle.layout.specs.Tests.{count}
use Rattle.program.specs.Program.{Argument, Program, Version}
use Rattle.checker.specs.Verdicts.{verdict_of}
use Rattle.machine.specs.Begin.{program_of}
use Rattle.machine.specs.Calls.{picked, searched, versions_of}
use Rattle.machine.specs.Try.{Try, got, stuck, stop}

-- how many versions of a program are of the function f
abbrev pub of_function : Program → ℕ → ℕ
of_function P f = count (λ (W : Version). eqb W.function f) P

-- the picked version's number plus 1, or all of the function where none fits
unfoldable pub CountIs : Program → ℕ → Try Version → ℕ → Type 0
CountIs P f (got W) n = n ≡ W.version + 1
CountIs P f stuck n = ⊥
CountIs P f (stop e) n = n ≡ of_function P f

-- each search of an accepted image looks at exactly so many, and what it has is what the function has
unfoldable pub SearchCounts : Type 0
SearchCounts =
    (s : List ℕ) (m : ℕ) → verdict_of s ≡ Ok m → (level f mark ret : ℕ) (pairs : List Argument) (ks : List ℕ)
    → CountIs (program_of s) f (picked (program_of s) level f mark ret pairs ks) (searched (program_of s) level f mark ret pairs ks) × (versions_of (program_of s) f ≡ of_function (program_of s) f)
