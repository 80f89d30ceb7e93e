-- Reports of small images, computed from the bytes.
use mathlib.Core.Path.{◌≡◌, refl}
use mathlib.Core.List.{List, [], ◌∷◌, ◌++◌}
use Prim.Native.Nat.{ℕ, zero, suc, ◌+◌}
use lib.ListN.{length}
use Rattle.layout.specs.Kinds as kind
use Rattle.layout.specs.Tests.{◌and◌, all, any}
use Rattle.layout.specs.Records.{size_of, walk, rest, every, choose}
use Rattle.program.specs.Program.{instr_by, number_in, put_by, view_by, find_version, first_mark, arguments as pairs_of}
use Rattle.rules.specs.Types.{kind_of, ownership_of, within}
use Rattle.machine.specs.Calls.{same_ownerships}
use Rattle.machine.specs.Begin.{program_of}
use Rattle.bounds.specs.Bounds.{allows, passing, fitting, reaches, reached_by, reached_in, dependencies, greater, largest, steps_at, steps_to, steps_in, steps_of, same, is_listed, bound_in, is_free, first_of, versions_from, by_number, row_of, listed_from, bounded, Bound, steps, large, unbounded, reads, unlisted, Entry, report}

-- a record
abbrev rec : ℕ → List ℕ → List ℕ
rec k body = (4 + length body) ∷ 0 ∷ k ∷ 0 ∷ body

-- n times
unfoldable times : ℕ → List ℕ → List ℕ
times zero l = []
times (suc n) l = l ++ times n l

abbrev entry : ℕ → ℕ → Bound → Entry
entry f w b = record { function = f; version = w; bound = b }

-- a level
abbrev level : ℕ → List ℕ
level n = rec kind.LEVEL (n ∷ [])

-- a version of the level l without parameters, of one integer register and one block: n times the code
abbrev leveled : ℕ → ℕ → ℕ → ℕ → List ℕ → List ℕ
leveled l f w n code = rec kind.VERSION (f ∷ w ∷ 0 ∷ 1 ∷ 2 ∷ 1 ∷ 2 ∷ []) ++ level l ++ rec kind.BLOCK (0 ∷ 0 ∷ n ∷ []) ++ times n code

-- of the level 0
abbrev plain : ℕ → ℕ → ℕ → List ℕ → List ℕ
plain f w n code = leveled 0 f w n code

abbrev lit : List ℕ
lit = rec kind.LIT (0 ∷ 5 ∷ 0 ∷ 0 ∷ 0 ∷ 0 ∷ 0 ∷ 0 ∷ 0 ∷ [])

abbrev call : ℕ → ℕ → List ℕ
call f w = rec kind.CALL (0 ∷ f ∷ w ∷ 0 ∷ [])

abbrev dispatch : ℕ → List ℕ
dispatch f = rec kind.DISPATCH (0 ∷ f ∷ 0 ∷ 2 ∷ 0 ∷ [])

rules : Unit {0}
unfolding
    ◌and◌ all any
    size_of walk rest every choose
    instr_by number_in put_by view_by find_version first_mark pairs_of
    kind_of ownership_of within same_ownerships
    allows passing fitting reaches reached_by reached_in dependencies greater largest steps_at steps_to steps_in steps_of
    same is_listed bound_in is_free first_of versions_from by_number row_of listed_from bounded reads unlisted report times
rules = tt

-- image I
identity : report (program_of (11 ∷ 0 ∷ 1 ∷ 0 ∷ 0 ∷ 0 ∷ 1 ∷ 1 ∷ 2 ∷ 1 ∷ 2 ∷ 5 ∷ 0 ∷ 3 ∷ 0 ∷ 0 ∷ 7 ∷ 0 ∷ 2 ∷ 0 ∷ 0 ∷ 0 ∷ 0 ∷ [])) ≡ entry 0 0 (steps 1) ∷ []
unfolding rules
identity = refl

-- 0.0 calls 2.0 twice, 1.0 calls itself, 2.0 has three instructions, 3.0 calls 1.0, 4.0 has one: of 2.0 and 4.0, which are free, 2.0 is the lowest, then 0.0 is
order : report (program_of (plain 0 0 2 (call 2 0) ++ plain 1 0 1 (call 1 0) ++ plain 2 0 3 lit ++ plain 3 0 1 (call 1 0) ++ plain 4 0 1 lit)) ≡
    entry 2 0 (steps 4) ∷ entry 0 0 (steps 11) ∷ entry 4 0 (steps 2) ∷ entry 1 0 unbounded ∷ entry 3 0 unbounded ∷ []
unfolding rules
order = refl

-- 0.0 dispatches to 1: the largest of those that the signature allows, though the lowest is always picked; 1.2 returns a vector
widest : report (program_of (plain 0 0 1 (dispatch 1) ++ plain 1 0 1 lit ++ plain 1 1 7 lit ++
    rec kind.VERSION (1 ∷ 2 ∷ 0 ∷ 1 ∷ 3 ∷ 1 ∷ 3 ∷ []) ++ level 0 ++ rec kind.BLOCK (0 ∷ 0 ∷ 1 ∷ []) ++ rec kind.VEC (0 ∷ 0 ∷ []))) ≡
    entry 1 0 (steps 2) ∷ entry 1 1 (steps 8) ∷ entry 0 0 (steps 10) ∷ entry 1 2 (steps 2) ∷ []
unfolding rules
widest = refl

-- 0.0, of the level 0, and 2.0, of the level 1, dispatch to 1: 1.1, of the level 1, is above 0.0
levels : report (program_of (plain 0 0 1 (dispatch 1) ++ plain 1 0 1 lit ++ leveled 1 1 1 7 lit ++ leveled 1 2 0 1 (dispatch 1))) ≡
    entry 1 0 (steps 2) ∷ entry 0 0 (steps 4) ∷ entry 1 1 (steps 8) ∷ entry 2 0 (steps 10) ∷ []
unfolding rules
levels = refl

-- 0.0 dispatches to its own function; 1.0 gives an argument, and no version of 0 takes one: that adds 0
nothing : report (program_of (plain 0 0 1 (dispatch 0) ++
    rec kind.VERSION (1 ∷ 0 ∷ 0 ∷ 1 ∷ 2 ∷ 1 ∷ 2 ∷ []) ++ level 0 ++ rec kind.BLOCK (0 ∷ 0 ∷ 2 ∷ []) ++ lit ++ rec kind.DISPATCH (0 ∷ 0 ∷ 0 ∷ 2 ∷ 1 ∷ 2 ∷ 0 ∷ []))) ≡
    entry 1 0 (steps 3) ∷ entry 0 0 unbounded ∷ []
unfolding rules
nothing = refl

-- a promise body counts once, with its calls: a body that makes the promise and forces it, the promise a call of 1.0; a run takes just that many steps
promises : report (program_of (rec kind.VERSION (0 ∷ 0 ∷ 0 ∷ 2 ∷ 2 ∷ 2 ∷ 2 ∷ 4 ∷ []) ++ level 0 ++ rec kind.BLOCK (0 ∷ 0 ∷ 2 ∷ []) ++ rec kind.PROM (1 ∷ 1 ∷ []) ++ rec kind.FORCE (0 ∷ 1 ∷ []) ++ rec kind.BLOCK (0 ∷ 0 ∷ 1 ∷ []) ++ call 1 0 ++ plain 1 0 2 lit)) ≡
    entry 1 0 (steps 3) ∷ entry 0 0 (steps 8) ∷ []
unfolding rules
promises = refl

-- 48 calls of 48 calls of ..
growing : report (program_of (plain 0 0 48 (call 1 0) ++ plain 1 0 48 (call 2 0) ++ plain 2 0 48 (call 3 0) ++ plain 3 0 48 (call 4 0) ++ plain 4 0 48 (call 5 0) ++ plain 5 0 48 (call 6 0) ++ plain 6 0 1 lit)) ≡
    entry 6 0 (steps 2) ∷ entry 5 0 (steps 145) ∷ entry 4 0 (steps 7009) ∷ entry 3 0 (steps 336481) ∷ entry 2 0 (steps 16151137) ∷ entry 1 0 (steps 775254625) ∷ entry 0 0 large ∷ []
unfolding rules
growing = refl
