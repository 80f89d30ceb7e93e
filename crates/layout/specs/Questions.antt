-- Questions 1 to 5: the bytes and the records.
use Rattle.std.specs.Prelude.{List, [], ◌∷◌, Bool, true, cond, not, ◌||◌, ℕ, ◌+◌, ◌-◌, ◌*◌, length, ltb, leb, eqb, None, Some}
use Rattle.layout.specs.Found.{Found}
use Rattle.std.proofs.Math.Option.{Option, none, some}
use Rattle.layout.specs.Bounds.{IMAGE, FUNCTIONS, VERSIONS, ALL-VERSIONS, LEVELS, REGISTERS, PARAMETERS, BLOCKS, INSTRUCTIONS, OPERANDS, MARKS, OPERATIONS}
use Rattle.layout.specs.Kinds as kind
use Rattle.layout.specs.Tests.{◌and◌}
use Rattle.layout.specs.Records.{Rec, ◌!◌, choose}
use Rattle.layout.specs.Forms.{literal_kind, literal_length}
use Rattle.layout.specs.Scan.{scan}
use Rattle.layout.specs.declared.Due.{Due}
use Rattle.layout.specs.declared.Form.{Form}

-- 1: has the image 1..32,768 bytes?
unfoldable pub question1 : List ℕ → Found
question1 s = cond (ltb 0 (length s) and leb (length s) IMAGE) None (Some 0)

-- for a question that keeps nothing from record to record
abbrev pub same : Unit {0} → Rec → Unit {0}
same st r = st

-- for a question that asks nothing at the end
abbrev pub nothing : {S : Type 0} → S → Found
nothing st = None

-- 2: does each record have a full head, a length of at least 4, and end inside the image? `scan` asks that of every record
abbrev pub whole : Unit {0} → Rec → Bool
whole st r = true

-- 2, put to the records of an image
unfoldable pub question2 : List Rec → Found
question2 rs = scan whole same nothing tt rs

-- the length that a kind of both forms and its fields make; 0, which no record has, where the kind is none of them
unfoldable pub plain_length : ℕ → List ℕ → ℕ
plain_length k b = choose k 0 (
    (kind.VERSION, 10 + b ! 3) ∷
    (kind.BLOCK, 7) ∷
    (kind.LEVEL, 5) ∷
    (kind.MOVE, 6) ∷
    (kind.USE, 6) ∷
    (kind.DUP, 6) ∷
    (kind.VEC, 6 + b ! 1) ∷
    (kind.LEN, 6) ∷
    (kind.GET, 7) ∷
    (kind.SET, 7) ∷
    (kind.ARITH, 8) ∷
    (kind.SELECT, 8) ∷
    (kind.CAST, 6) ∷
    (kind.NAMED, 6) ∷
    (kind.STORE, 6) ∷
    (kind.PROM, 6) ∷
    (kind.FORCE, 6) ∷
    (kind.PEEK, 7) ∷
    (kind.POKE, 7) ∷
    (kind.CALL, 8 + b ! 3) ∷
    (kind.DISPATCH, 9 + 2 * b ! 4) ∷
    (kind.SKIP, 6) ∷ [])

-- the length that a kind and its fields make in a form
unfoldable pub length_of : Form → ℕ → List ℕ → ℕ
length_of form k b = cond (eqb k (literal_kind form)) (literal_length form) (plain_length k b)

-- 3: is each kind known, its length the one its fields make?
abbrev pub fitting : Form → Unit {0} → Rec → Bool
fitting form st r = eqb r.size (length_of form r.kind r.body)

-- 3, put to the records of an image in a form; no other question asks for the form
unfoldable pub question3 : Form → List Rec → Found
question3 form rs = scan (fitting form) same nothing tt rs

-- a VERSION's numbers and counts: function, version, parameters, registers, blocks
unfoldable pub version_in_bounds : List ℕ → Bool
version_in_bounds b =
    ltb (b ! 0) FUNCTIONS and ltb (b ! 1) VERSIONS and leb (b ! 2) PARAMETERS and leb (b ! 2) (b ! 3)
    and ltb 0 (b ! 3) and leb (b ! 3) REGISTERS and ltb 0 (b ! 5) and leb (b ! 5) BLOCKS

-- the bounds that question 4 names: a VERSION's, marks, instruction counts, levels, n and op
unfoldable pub in_bounds : ℕ → List ℕ → Bool
in_bounds k b = choose k true (
    (kind.VERSION, version_in_bounds b) ∷
    (kind.BLOCK, ltb (b ! 0) MARKS and leb (b ! 2) INSTRUCTIONS) ∷
    (kind.LEVEL, ltb (b ! 0) LEVELS) ∷
    (kind.VEC, leb (b ! 1) OPERANDS) ∷
    (kind.ARITH, ltb (b ! 1) OPERATIONS) ∷
    (kind.CALL, leb (b ! 3) OPERANDS) ∷
    (kind.DISPATCH, ltb (b ! 2) MARKS and leb (b ! 4) OPERANDS) ∷ [])

-- no level, no block and no instruction is due
abbrev pub idle : Due → Bool
idle due = eqb due.levels 0 and eqb due.blocks 0 and eqb due.instructions 0

-- where a VERSION may stand: where nothing is due
abbrev pub version_next : Due → Bool
version_next due = ltb due.versions ALL-VERSIONS and idle due

-- what is due after it: its level, and its blocks
abbrev pub after_version : Due → List ℕ → Due
after_version due b = record { versions = due.versions + 1; levels = 1; blocks = b ! 5; instructions = 0 }

-- 02, 7: where a LEVEL may stand: right after a VERSION
abbrev pub level_next : Due → Bool
level_next due = ltb 0 due.levels

-- what is due after it
abbrev pub after_level : Due → Due
after_level due = record { versions = due.versions; levels = due.levels - 1; blocks = due.blocks; instructions = due.instructions }

-- where a BLOCK may stand: where a block is due, and neither a level nor an instruction
abbrev pub block_next : Due → Bool
block_next due = eqb due.levels 0 and ltb 0 due.blocks and eqb due.instructions 0

-- what is due after it: its instructions
abbrev pub after_block : Due → List ℕ → Due
after_block due b = record { versions = due.versions; levels = due.levels; blocks = due.blocks - 1; instructions = b ! 2 }

-- where an instruction may stand
abbrev pub line_next : Due → Bool
line_next due = ltb 0 due.instructions

-- what is due after it
abbrev pub after_line : Due → Due
after_line due = record { versions = due.versions; levels = due.levels; blocks = due.blocks; instructions = due.instructions - 1 }

-- may a record of this kind stand here, by what is due?
unfoldable pub in_order : Due → ℕ → Bool
in_order due k = choose k (line_next due) ((kind.VERSION, version_next due) ∷ (kind.LEVEL, level_next due) ∷ (kind.BLOCK, block_next due) ∷ [])

-- what is due after it
unfoldable pub due_after : Due → Rec → Due
due_after due r = choose r.kind (after_line due) ((kind.VERSION, after_version due r.body) ∷ (kind.LEVEL, after_level due) ∷ (kind.BLOCK, after_block due r.body) ∷ [])

-- what is due at the start
abbrev pub start : Due
start = record { versions = 0; levels = 0; blocks = 0; instructions = 0 }

-- where records are missing, the offset is the image length
unfoldable pub none_due : ℕ → Due → Found
none_due end due = cond (idle due) None (Some end)

-- 4: are a VERSION's numbers and counts, the count of versions so far, instruction counts, levels, marks, op and n in bounds, and records in order?
abbrev pub placed : Due → Rec → Bool
placed due r = in_bounds r.kind r.body and in_order due r.kind

-- 4, put to the records of an image of the length `end`
unfoldable pub question4 : ℕ → List Rec → Found
question4 end rs = scan placed due_after (none_due end) start rs

-- does the version w of the function f follow on the VERSION before?
unfoldable pub follows : Option Rec → ℕ → ℕ → Bool
follows none f w = eqb f 0 and eqb w 0
follows (some r) f w = (eqb f (r.body ! 0) and eqb w (r.body ! 1 + 1)) || (eqb f (r.body ! 0 + 1) and eqb w 0)

-- the last VERSION so far, which question 5 keeps
abbrev pub last_version : Option Rec → Rec → Option Rec
last_version before r = cond (eqb r.kind kind.VERSION) (some r) before

-- 5: is the first version 0.0, and each next one the same function with version + 1, or function + 1 with version 0?
abbrev pub following : Option Rec → Rec → Bool
following before r = not (eqb r.kind kind.VERSION) || follows before (r.body ! 0) (r.body ! 1)

-- 5, put to the records of an image
unfoldable pub question5 : List Rec → Found
question5 rs = scan following last_version nothing none rs
