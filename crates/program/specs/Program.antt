-- Image: the program that its records make. It is total: records that are not in order make some program, of which nothing is said.
use Rattle.std.specs.Prelude.{List, [], ◌∷◌, Bool, cond, ℕ, zero, suc, ◌+◌, ◌*◌, ℤ, take, eqb}
use Rattle.std.proofs.Math.Option.{Option, none, some}
use Rattle.std.proofs.Common.{to_z}
use Rattle.std.specs.Int.{w32, w64}
use Rattle.layout.specs.Kinds as kind
use Rattle.layout.specs.Tests.{◌and◌, any}
use Rattle.layout.specs.Records.{Rec, ◌!◌, fields, choose}
use Rattle.layout.specs.declared.Form.{Form}

-- what a call gives: the type that is asked for and the register
pub record Argument : Type 0 where
  pub type : ℕ
  pub register : ℕ

-- kinds 17 to 36, LIT first, each with its fields in the paper's order; registers, names, blocks, functions, versions, marks, types and op by number
pub data Instr : Type 0 where
  LIT : (d : ℕ) (i : ℤ) → Instr
  MOVE : (d a : ℕ) → Instr
  USE : (d a : ℕ) → Instr
  DUP : (d a : ℕ) → Instr
  VEC : (d : ℕ) (rs : List ℕ) → Instr
  LEN : (d a : ℕ) → Instr
  GET : (d a i : ℕ) → Instr
  SET : (a i e : ℕ) → Instr
  ARITH : (d op a b : ℕ) → Instr
  SELECT : (d c a b : ℕ) → Instr
  CAST : (d a : ℕ) → Instr
  NAMED : (d x : ℕ) → Instr
  STORE : (x a : ℕ) → Instr
  PROM : (d block : ℕ) → Instr
  FORCE : (d a : ℕ) → Instr
  PEEK : (d a x : ℕ) → Instr
  POKE : (a x e : ℕ) → Instr
  CALL : (d function version : ℕ) (rs : List ℕ) → Instr
  DISPATCH : (d function mark return : ℕ) (pairs : List Argument) → Instr
  SKIP : (a n : ℕ) → Instr

-- an instruction and the offset of its record; likewise below
pub record Line : Type 0 where
  pub at : ℕ
  pub does : Instr

-- kind 2: mark (0 quiet, 1 reflective), result register, instructions
pub record Block : Type 0 where
  pub at : ℕ
  pub mark : ℕ
  pub result : ℕ
  pub code : List Line

-- kind 1: the parameters are the first registers, each register has a type; its level is that of the kind 3 behind it; block 0 is the body
pub record Version : Type 0 where
  pub at : ℕ
  pub function : ℕ
  pub version : ℕ
  pub parameters : ℕ
  pub types : List ℕ
  pub return : ℕ
  pub level : ℕ
  pub blocks : List Block

-- the versions in the image's order
abbrev pub Program : Type 0
Program = List Version

-- the little-endian u32 at the field k
abbrev pub word : List ℕ → ℕ → ℕ
word b k = b ! k + 256 * (b ! (k + 1) + 256 * (b ! (k + 2) + 256 * b ! (k + 3)))

-- the number of a literal, from the field 1 on: little-endian, an i32 in the one form, an i64 in the other
unfoldable pub number_in : Form → List ℕ → ℤ
number_in Form.Narrow b = to_z w32 (word b 1)
number_in Form.Wide b = to_z w64 (word b 1 + 4294967296 * word b 5)

-- n pairs (type, register) from the field k on
unfoldable pub arguments : List ℕ → ℕ → ℕ → List Argument
arguments b k zero = []
arguments b k (suc n) = record { type = b ! k; register = b ! (k + 1) } ∷ arguments b (k + 2) n

-- the instruction that a kind and a body make in a form: LIT, also where the kind is not known
unfoldable pub instr_by : Form → ℕ → List ℕ → Instr
instr_by form k b = choose k (LIT (b ! 0) (number_in form b)) (
    (kind.MOVE, MOVE (b ! 0) (b ! 1)) ∷
    (kind.USE, USE (b ! 0) (b ! 1)) ∷
    (kind.DUP, DUP (b ! 0) (b ! 1)) ∷
    (kind.VEC, VEC (b ! 0) (fields b 2 (b ! 1))) ∷
    (kind.LEN, LEN (b ! 0) (b ! 1)) ∷
    (kind.GET, GET (b ! 0) (b ! 1) (b ! 2)) ∷
    (kind.SET, SET (b ! 0) (b ! 1) (b ! 2)) ∷
    (kind.ARITH, ARITH (b ! 0) (b ! 1) (b ! 2) (b ! 3)) ∷
    (kind.SELECT, SELECT (b ! 0) (b ! 1) (b ! 2) (b ! 3)) ∷
    (kind.CAST, CAST (b ! 0) (b ! 1)) ∷
    (kind.NAMED, NAMED (b ! 0) (b ! 1)) ∷
    (kind.STORE, STORE (b ! 0) (b ! 1)) ∷
    (kind.PROM, PROM (b ! 0) (b ! 1)) ∷
    (kind.FORCE, FORCE (b ! 0) (b ! 1)) ∷
    (kind.PEEK, PEEK (b ! 0) (b ! 1) (b ! 2)) ∷
    (kind.POKE, POKE (b ! 0) (b ! 1) (b ! 2)) ∷
    (kind.CALL, CALL (b ! 0) (b ! 1) (b ! 2) (fields b 4 (b ! 3))) ∷
    (kind.DISPATCH, DISPATCH (b ! 0) (b ! 1) (b ! 2) (b ! 3) (arguments b 5 (b ! 4))) ∷
    (kind.SKIP, SKIP (b ! 0) (b ! 1)) ∷ [])

-- Image: the instruction that a record makes
abbrev pub line_by : Form → Rec → Line
line_by form r = record { at = r.at; does = instr_by form r.kind r.body }

-- Image: the block that a BLOCK and its instructions make
abbrev pub block_of : Rec → List Line → Block
block_of r code = record { at = r.at; mark = r.body ! 0; result = r.body ! 1; code = code }

-- 02, 7: the level that a record states; 0 where it is no LEVEL
abbrev pub level_of : Rec → ℕ
level_of r = cond (eqb r.kind kind.LEVEL) (r.body ! 0) 0

-- Image: the version that a VERSION, its level and its blocks make
abbrev pub version_of : Rec → ℕ → List Block → Version
version_of r level blocks = record {
  at = r.at;
  function = r.body ! 0;
  version = r.body ! 1;
  parameters = r.body ! 2;
  types = fields r.body 6 (r.body ! 3);
  return = r.body ! 4;
  level = level;
  blocks = blocks;
}

-- what lies ahead of an offset: the level that the next record states, the instructions left in its block, the blocks left in its version, the versions left
pub record View : Type 0 where
  pub level : ℕ
  pub code : List Line
  pub blocks : List Block
  pub versions : List Version

-- nothing lies ahead
abbrev pub nowhere : View
nowhere = record { level = 0; code = []; blocks = []; versions = [] }

-- what lies ahead of a record, by what lies ahead of its end: a version is followed by its level and its blocks in order, each by its
-- instructions. A LEVEL behind a VERSION is in no block; one inside a block, which question 4 refuses, reads as an instruction
unfoldable pub put_by : Form → Rec → View → View
put_by form r w =
    cond (eqb r.kind kind.VERSION) (record { level = 0; code = []; blocks = []; versions = version_of r w.level w.blocks ∷ w.versions })
    (cond (eqb r.kind kind.BLOCK) (record { level = 0; code = []; blocks = block_of r w.code ∷ w.blocks; versions = w.versions })
    (record { level = level_of r; code = line_by form r ∷ w.code; blocks = w.blocks; versions = w.versions }))

-- what lies ahead of a list of records, up to one that is not whole
unfoldable pub view_by : Form → List Rec → View
view_by form [] = nowhere
view_by form (r ∷ rs) = cond (eqb r.size 0) nowhere (put_by form r (view_by form rs))

-- Image: the program of its records
abbrev pub program_by : Form → List Rec → Program
program_by form rs = (view_by form rs).versions

-- ---- in the form in force, that of 64 bits

abbrev pub instr_of : ℕ → List ℕ → Instr
instr_of k b = instr_by Form.Wide k b

abbrev pub line_of : Rec → Line
line_of r = line_by Form.Wide r

abbrev pub put : Rec → View → View
put r w = put_by Form.Wide r w

abbrev pub view : List Rec → View
view rs = view_by Form.Wide rs

abbrev pub program : List Rec → Program
program rs = program_by Form.Wide rs

-- ---- look-up

-- the version w of the function f
unfoldable pub find_version : Program → ℕ → ℕ → Option Version
find_version [] f w = none
find_version (v ∷ vs) f w = cond (eqb v.function f and eqb v.version w) (some v) (find_version vs f w)

-- has the function f a version?
abbrev pub has_function : ℕ → Program → Bool
has_function f P = any (λ (v : Version). eqb v.function f) P

-- the mark of the first of these blocks, 0 where there is none
unfoldable pub first_mark : List Block → ℕ
first_mark [] = 0
first_mark (b ∷ bs) = b.mark

-- Types fit when: a version's mark is that of its block 0
abbrev pub mark_of : Version → ℕ
mark_of v = first_mark v.blocks

-- the types of a version's parameters
abbrev pub parameter_types : Version → List ℕ
parameter_types v = take v.parameters v.types

-- registers beside the types that are asked of them
unfoldable pub beside : List ℕ → List ℕ → List Argument
beside [] rs = []
beside (t ∷ ts) [] = []
beside (t ∷ ts) (r ∷ rs) = record { type = t; register = r } ∷ beside ts rs

-- what a CALL of the version v gives
abbrev pub given : Version → List ℕ → List Argument
given v rs = beside (parameter_types v) rs
