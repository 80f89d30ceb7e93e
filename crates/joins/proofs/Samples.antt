-- Cases, computed: image I of the paper joined with itself, and with a function that calls itself in both ways; the report of a join.
use mathlib.Core.Path.{◌≡◌, refl}
use mathlib.Core.List.{List, [], ◌∷◌, ◌++◌}
use Prim.Native.Nat.{ℕ}
use Rattle.layout.specs.Tests.{◌and◌, all, any}
use Rattle.layout.specs.Records.{walk, rest, size_of, every, choose}
use Rattle.layout.specs.Forms.{record_bytes, printed}
use Rattle.program.specs.Program.{view_by, put_by, instr_by, arguments, find_version, first_mark}
use Rattle.rules.specs.Types.{kind_of, ownership_of, within}
use Rattle.machine.specs.Begin.{program_of}
use Rattle.machine.specs.Calls.{same_ownerships}
use Rattle.bounds.specs.Bounds.{allows, passing, fitting, reaches, reached_by, reached_in, dependencies, greater, largest, steps_at, steps_to, steps_in, steps_of, same, is_listed, bound_in, is_free, first_of, versions_from, by_number, row_of, listed_from, bounded, steps, unbounded, reads, unlisted, report}
use Rattle.joins.specs.Joins.{raised, functions_from, joined}

-- I, as the function f
abbrev identity : ℕ → List ℕ
identity f = 11 ∷ 0 ∷ 1 ∷ 0 ∷ f ∷ 0 ∷ 1 ∷ 1 ∷ 2 ∷ 1 ∷ 2 ∷ 5 ∷ 0 ∷ 3 ∷ 0 ∷ 0 ∷ 7 ∷ 0 ∷ 2 ∷ 0 ∷ 0 ∷ 0 ∷ 0 ∷ []

twice : joined (identity 0) (identity 0) ≡ identity 0 ++ identity 1
unfolding joined printed record_bytes raised functions_from walk rest size_of every choose view_by put_by
twice = refl

-- the function f, whose body is a CALL and a DISPATCH of f
abbrev calling : ℕ → List ℕ
calling f = 12 ∷ 0 ∷ 1 ∷ 0 ∷ f ∷ 0 ∷ 1 ∷ 2 ∷ 2 ∷ 1 ∷ 2 ∷ 2 ∷ 5 ∷ 0 ∷ 3 ∷ 0 ∷ 0 ∷ 7 ∷ 0 ∷ 2 ∷ 0 ∷ 0 ∷ 1 ∷ 2 ∷ 9 ∷ 0 ∷ 33 ∷ 0 ∷ 1 ∷ f ∷ 0 ∷ 1 ∷ 0 ∷ 11 ∷ 0 ∷ 34 ∷ 0 ∷ 1 ∷ f ∷ 0 ∷ 2 ∷ 1 ∷ 2 ∷ 0 ∷ []

called : joined (identity 0) (calling 0) ≡ identity 0 ++ calling 1
unfolding joined printed record_bytes raised functions_from walk rest size_of every choose view_by put_by instr_by arguments
called = refl

-- 02, 12, of a join: the second's version, which has a bound, comes before the first's, which has none
reported : report (program_of (joined (calling 0) (identity 0))) ≡ record { function = 1; version = 0; bound = steps 1 } ∷ record { function = 0; version = 0; bound = unbounded } ∷ []
unfolding
    joined printed record_bytes raised functions_from walk rest size_of every choose view_by put_by instr_by arguments
    ◌and◌ all any find_version first_mark kind_of ownership_of within same_ownerships
    allows passing fitting reaches reached_by reached_in dependencies greater largest steps_at steps_to steps_in steps_of
    same is_listed bound_in is_free first_of versions_from by_number row_of listed_from bounded reads unlisted report
reported = refl
