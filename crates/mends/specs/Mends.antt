-- 02, 14: the smallest mend.
use mathlib.Core.List.{List, [], ◌∷◌, flat_map}
use Rattle.std.specs.Prelude.{Bool, cond, not, ◌||◌, ℕ, ◌+◌, length, set, eqb, Err, Ok, None, Some, Option}
use Rattle.std.specs.Result.{is_ok}
use Rattle.layout.specs.Tests.{◌and◌}
use Rattle.layout.specs.Records.{◌!◌, records}
use Rattle.program.specs.Program.{Version, Program, program}
use Rattle.program.specs.Places.{numbers}
use Rattle.checker.specs.Verdicts.{verdict_of, Verdict}
use Rattle.mends.specs.declared.Mended.{Mended}
use Rattle.mends.specs.declared.Mended.TheVariants.{Accepted, Refused, Byte, Unmended}
use Rattle.checker.specs.declared.Refusal.{Refusal}
use Rattle.mends.specs.declared.Change.{Change}

-- ---- what may be changed

-- the register type bytes of a VERSION: behind its head and its first six fields
abbrev pub type_places : Version → List ℕ
type_places v = numbers (v.at + 10) (length v.types)

-- those of a program, lowest offset first
abbrev pub places : Program → List ℕ
places P = flat_map type_places P

-- the values of a byte, lowest first
abbrev pub VALUES : List ℕ
VALUES = numbers 0 256

-- ---- whether it mends

-- is the image accepted?
abbrev pub is_accepted : Verdict → Bool
is_accepted v = is_ok v

-- does the byte at p, changed to x, make the image accepted?
unfoldable pub mends_by : List ℕ → ℕ → ℕ → Bool
mends_by s p x = not (eqb x (s ! p)) and is_accepted (verdict_of (set s p x))

-- ---- a change

-- the byte at p becomes x
abbrev pub to : ℕ → ℕ → Change
to p x = record { at = p; value = x }

-- ---- lowest offset first, then lowest new value

-- the byte at p changed to the first of these values that mends
unfoldable pub first_value : (ℕ → Bool) → ℕ → List ℕ → Option Change
first_value mends p [] = None
first_value mends p (x ∷ xs) = cond (mends x) (Some (to p x)) (first_value mends p xs)

-- a change, or else another
unfoldable pub or_else : Option Change → Option Change → Option Change
or_else (Some hit) more = Some hit
or_else None more = more

-- that of the first of these places that has one
unfoldable pub first_place : (ℕ → ℕ → Bool) → List ℕ → List ℕ → Option Change
first_place mends values [] = None
first_place mends values (p ∷ ps) = or_else (first_value (mends p) p values) (first_place mends values ps)

-- ---- the answer

-- refusals that a change may mend: 6, 8, 9 or 10
unfoldable pub mendable : ℕ → Bool
mendable q = eqb q 6 || eqb q 8 || eqb q 9 || eqb q 10

-- the change beside the refusal, or that no such byte exists
unfoldable pub beside : Refusal → Option Change → Mended
beside why (Some hit) = Byte why hit
beside why None = Unmended why

-- other refusals are returned as they are, and an accepted image is named accepted
unfoldable pub mend_after : Verdict → List ℕ → Mended
mend_after (Ok n) s = Accepted n
mend_after (Err why) s = cond (mendable why.question) (beside why (first_place (mends_by s) VALUES (places (program (records s))))) (Refused why)

-- 02, 14: the one register type byte whose change makes the image accepted
unfoldable pub mend_of : List ℕ → Mended
mend_of s = mend_after (verdict_of s) s
