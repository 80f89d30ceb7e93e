-- 02, 13: two images into one.
use Rattle.std.specs.Prelude.{List, [], ◌∷◌, ◌++◌, map, Bool, cond, ℕ, ◌+◌, length, set, leb, Err, Ok, Result}
use Rattle.layout.specs.Bounds.{IMAGE, FUNCTIONS, ALL-VERSIONS}
use Rattle.layout.specs.Kinds as kind
use Rattle.layout.specs.Tests.{◌and◌}
use Rattle.layout.specs.Records.{Rec, ◌!◌, records, choose}
use Rattle.layout.specs.Forms.{printed}
use Rattle.program.specs.Program.{Program}
use Rattle.writer.specs.Text.{placed}
use Rattle.checker.specs.Verdicts.{verdict_of, Verdict, refused}
use Rattle.machine.specs.Begin.{program_of}
use Rattle.joins.specs.declared.JoinError.{JoinError}
use Rattle.joins.specs.declared.JoinError.TheVariants.{First, Together, Second}

-- ---- the second's records renumbered

-- the field i raised by k
abbrev pub raise : ℕ → ℕ → List ℕ → List ℕ
raise k i b = set b i (k + b ! i)

-- the body of a record, its function raised by k: VERSION has it first, CALL and DISPATCH behind d; no other record has one
unfoldable pub raised : ℕ → ℕ → List ℕ → List ℕ
raised k n b = choose n b (
    (kind.VERSION, raise k 0 b) ∷
    (kind.CALL, raise k 1 b) ∷
    (kind.DISPATCH, raise k 1 b) ∷ [])

-- a record, its function raised by k
abbrev pub raise_rec : ℕ → Rec → Rec
raise_rec k r = record { at = r.at; size = r.size; kind = r.kind; body = raised k r.kind r.body }

-- ---- the joined image

-- how many functions a program has: one more than the last version's, n where there is none
unfoldable pub functions_from : ℕ → Program → ℕ
functions_from n [] = n
functions_from n (v ∷ vs) = functions_from (v.function + 1) vs

-- the functions of an image
abbrev pub functions_in : List ℕ → ℕ
functions_in image = functions_from 0 (program_of image)

-- the versions of an image
abbrev pub versions_in : List ℕ → ℕ
versions_in image = length (program_of image)

-- 02, 13: the second's functions follow the first's, its calls with them, nothing else changed
unfoldable pub joined : List ℕ → List ℕ → List ℕ
joined a b = a ++ printed (map (raise_rec (functions_in a)) (records b))

-- ---- the answer

-- 23: does the joined image keep the bounds of the layout, and has the lent buffer, of so many places, room for it?
unfoldable pub in_bounds : List ℕ → List ℕ → ℕ → Bool
in_bounds a b room =
    leb (length a + length b) IMAGE and leb (functions_in a + functions_in b) FUNCTIONS and leb (versions_in a + versions_in b) ALL-VERSIONS
    and leb (length a + length b) room

-- 23, at 0, behind the questions to both
unfoldable pub join_after : Verdict → Verdict → List ℕ → List ℕ → ℕ → Result ℕ JoinError
join_after (Err why) x a b room = Err (First why)
join_after (Ok n) (Err why) a b room = Err (Second why)
join_after (Ok n) (Ok m) a b room = cond (in_bounds a b room) (Ok (length a + length b)) (Err (Together (refused 23 0)))

-- 02, 13: what becomes of a join, each image put to its questions first, the first image before the second
unfoldable pub join_of : List ℕ → List ℕ → ℕ → Result ℕ JoinError
join_of a b room = join_after (verdict_of a) (verdict_of b) a b room

-- the buffer after it: the bytes t from place 0 on, all else as it was; a refusal leaves it as it was
unfoldable pub leaves : Result ℕ JoinError → List ℕ → List ℕ → List ℕ
leaves (Ok n) out t = placed out 0 t
leaves (Err (First why)) out t = out
leaves (Err (Second why)) out t = out
leaves (Err (Together why)) out t = out

-- the buffer after the join of two images
abbrev pub joined_buffer : List ℕ → List ℕ → List ℕ → List ℕ
joined_buffer a b out = leaves (join_of a b (length out)) out (joined a b)
