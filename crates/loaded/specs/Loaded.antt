-- The loaded form of an image: a table of bytes. Image and table stand for a program, whatever they hold.
use Rattle.std.specs.Prelude.{List, [], ◌∷◌, Bool, cond, ◌||◌, ℕ, zero, suc, ◌+◌, ◌-◌, ◌*◌, ◌/◌, ◌%◌, min, drop, length, eqb, leb}
use Rattle.std.proofs.Math.Option.{Option, none, some}
use Rattle.layout.specs.Bounds.{OPERANDS}
use Rattle.layout.specs.Kinds as kind
use Rattle.layout.specs.Records.{◌!◌, choose, fields}
use Rattle.layout.specs.Tests.{◌and◌}
use Rattle.layout.specs.declared.Form.{Form}
use Rattle.program.specs.Program.{Instr, LIT, VEC, CALL, DISPATCH, Line, Block, Version, Program, arguments, instr_of, number_in}

-- A place is the offset of a record's kind, 2 behind that of the record: no record has the place 0.
-- The table: entries of two bytes, low byte first, under 4 × function + version the place of each version, 0 for none; behind these 128 for each of them 8,
-- the number of each of its blocks' records; behind these 1,152 a record of 8 bytes for each BLOCK and instruction in the image's order:
-- its kind, the five bytes that stand behind the kind in the image, its place.

-- how many numbers 4 × function + version there are; as many entries of versions, so it is the first entry of blocks
abbrev pub NUMBERS : ℕ
NUMBERS = 128

abbrev pub BLOCK-ENTRIES : ℕ
BLOCK-ENTRIES = NUMBERS

-- where the records begin
abbrev pub RECORDS : ℕ
RECORDS = 2304

-- the entry k
unfoldable pub entry_in : List ℕ → ℕ → ℕ
entry_in t k = t ! (2 * k) + 256 * t ! (2 * k + 1)

-- where the record i begins
abbrev pub record_at : ℕ → ℕ
record_at i = RECORDS + 8 * i

-- the place that the record i says
unfoldable pub place_in : List ℕ → ℕ → ℕ
place_in t i = t ! (record_at i + 6) + 256 * t ! (record_at i + 7)

-- ---- instructions

-- of n operands that are listed so many count: 8 at most, and an accepted image lists no more (question 4)
abbrev pub few : ℕ → ℕ
few n = min n OPERANDS

-- kinds whose fields all stand in a record of the table: MOVE to DUP, LEN to POKE, SKIP
unfoldable pub is_short : ℕ → Bool
is_short k = (leb kind.MOVE k and leb k kind.DUP) || (leb kind.LEN k and leb k kind.POKE) || eqb k kind.SKIP

-- an instruction that is not short, by the bytes d behind its head: VEC, CALL, DISPATCH; each other kind, known or not, reads as LIT
unfoldable pub long_in : ℕ → List ℕ → Instr
long_in k d = choose k (LIT (d ! 0) (number_in Form.Wide d)) (
    (kind.VEC, VEC (d ! 0) (fields d 2 (few (d ! 1)))) ∷
    (kind.CALL, CALL (d ! 0) (d ! 1) (d ! 2) (fields d 4 (few (d ! 3)))) ∷
    (kind.DISPATCH, DISPATCH (d ! 0) (d ! 1) (d ! 2) (d ! 3) (arguments d 5 (few (d ! 4)))) ∷ [])

-- an instruction by its kind: its fields stand in a where it is short, else in d
unfoldable pub read_by : ℕ → List ℕ → List ℕ → Instr
read_by k a d = cond (is_short k) (instr_of k a) (long_in k d)

-- the instruction of the record i: from the table, or from the image at the record's place
unfoldable pub instr_in : List ℕ → List ℕ → ℕ → Instr
instr_in s t i = read_by (t ! record_at i) (drop (record_at i + 1) t) (drop (place_in t i + 2) s)

abbrev pub line_in : List ℕ → List ℕ → ℕ → Line
line_in s t i = record { at = place_in t i - 2; does = instr_in s t i }

-- n instructions from the record i on
unfoldable pub lines_in : List ℕ → List ℕ → ℕ → ℕ → List Line
lines_in s t i zero = []
lines_in s t i (suc n) = line_in s t i ∷ lines_in s t (i + 1) n

-- ---- blocks and versions

-- how many instructions the block of the record i has: as the record says where the table has a record for each, else none
unfoldable pub count_in : List ℕ → ℕ → ℕ
count_in t i = let n = t ! (record_at i + 3) in cond (leb (record_at (i + 1 + n)) (length t)) n 0

-- a mark as a byte says it: 0 is quiet, all else reflective
unfoldable pub mark_by : ℕ → ℕ
mark_by x = cond (eqb x 0) 0 1

-- the block of the record i: mark, result, instruction count; its instructions' records stand behind it
unfoldable pub block_in : List ℕ → List ℕ → ℕ → Block
block_in s t i = record { at = place_in t i - 2; mark = mark_by (t ! (record_at i + 1)); result = t ! (record_at i + 2); code = lines_in s t (i + 1) (count_in t i) }

-- n blocks, whose records the entries from k on say
unfoldable pub blocks_in : List ℕ → List ℕ → ℕ → ℕ → List Block
blocks_in s t k zero = []
blocks_in s t k (suc n) = block_in s t (entry_in t k) ∷ blocks_in s t (k + 1) n

-- the version under the number k; its level is the first field of the record behind its own
unfoldable pub version_in : List ℕ → List ℕ → ℕ → Version
version_in s t k = let e = entry_in t k in record {
  at = e - 2;
  function = k / 4;
  version = k % 4;
  parameters = s ! (e + 4);
  types = fields s (e + 8) (s ! (e + 5));
  return = s ! (e + 6);
  level = s ! (e + 12 + s ! (e + 5));
  blocks = blocks_in s t (BLOCK-ENTRIES + 8 * k) (s ! (e + 7));
}

-- what stands under the number k
unfoldable pub numbered_in : List ℕ → List ℕ → ℕ → Option Version
numbered_in s t k = cond (eqb (entry_in t k) 0) none (some (version_in s t k))

-- the versions that are there, of n from the number k on
unfoldable pub versions_in : List ℕ → List ℕ → ℕ → ℕ → List Version
versions_in s t k zero = []
versions_in s t k (suc n) = cond (eqb (entry_in t k) 0) (versions_in s t (suc k) n) (version_in s t k ∷ versions_in s t (suc k) n)

-- the program that the image s and the table t stand for
unfoldable pub program_in : List ℕ → List ℕ → Program
program_in s t = versions_in s t 0 NUMBERS
