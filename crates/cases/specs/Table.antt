-- Proved cases, P1 to P11: one table of runs and what each gives.
use Rattle.std.specs.Prelude.{◌≡◌, List, [], ◌∷◌, ◌++◌, ℕ, zero, suc, ◌+◌, ℤ, pos, neg_ℤ, length, set, take}
use Rattle.layout.specs.Kinds as kind
use Rattle.machine.specs.Runs.{buffer_of}
use Rattle.machine.specs.Begin.{run_of}
use Rattle.machine.specs.declared.Answer.{Answer}
use Rattle.machine.specs.declared.End.{End}
use Rattle.machine.specs.declared.Ran.{Ran}

-- ---- rows

-- a run from the start: the image, the function and version entered, the argument words, the budget and the lent buffer; then what it gives: the answer, the steps taken and the buffer after it
pub record Row : Type 0 where
  pub image : List ℕ
  pub function : ℕ
  pub version : ℕ
  pub level : ℕ
  pub words : List ℤ
  pub budget : ℕ
  pub buffer : List ℤ
  pub answer : Answer
  pub steps : ℕ
  pub after : List ℤ

-- the run of a row
abbrev pub ran : Row → Ran
ran r = run_of r.image r.level r.function r.version r.words r.budget r.buffer

-- the run gives what its row says
abbrev pub Gives : Row → Type 0
Gives r = ((ran r).answer ≡ r.answer) × ((ran r).steps ≡ r.steps) × (buffer_of (ran r) r.buffer ≡ r.after)

-- ---- how rows are written

-- a row of a run at a level, by its other fields in that order
abbrev pub at_level : ℕ → List ℕ → ℕ → ℕ → List ℤ → ℕ → List ℤ → Answer → ℕ → List ℤ → Row
at_level level image f v words n buffer answer steps after = record {
  image = image;
  function = f;
  version = v;
  level = level;
  words = words;
  budget = n;
  buffer = buffer;
  answer = answer;
  steps = steps;
  after = after;
}

-- a row of a run at level 0
abbrev pub row : List ℕ → ℕ → ℕ → List ℤ → ℕ → List ℤ → Answer → ℕ → List ℤ → Row
row = at_level 0

-- the number −n
abbrev pub neg : ℕ → ℤ
neg n = neg_ℤ (pos n)

-- n places of a lent buffer from the place i on: the place i holds −1000 − i
abbrev pub lent_from : ℕ → ℕ → List ℤ
lent_from i zero = []
lent_from i (suc n) = neg (1000 + i) ∷ lent_from (i + 1) n

-- a lent buffer of n places
abbrev pub lent : ℕ → List ℤ
lent n = lent_from 0 n

-- an answer: refused by the question q at the offset p
infix 20 refused◌at◌
abbrev pub refused◌at◌ : ℕ → ℕ → Answer
refused q at p = Answer.Refused q p

-- DONE with an integer
abbrev pub integer : ℤ → Answer
integer z = Answer.Ended (End.Integer z)

-- DONE with a vector of n items
abbrev pub vector : ℕ → Answer
vector n = Answer.Ended (End.Vector n)

-- UNDEF
abbrev pub undef : Answer
undef = Answer.Ended End.Undef

-- DEEP
abbrev pub deep : Answer
deep = Answer.Ended End.Deep

-- ---- images

-- a record shorter than 256 bytes, by its kind and its body: u16 whole length, u16 kind, body, little-endian
abbrev pub rec : ℕ → List ℕ → List ℕ
rec k body = (4 + length body) ∷ 0 ∷ k ∷ 0 ∷ body

-- LIT d i for an i of 0 to 255
abbrev pub lit : ℕ → ℕ → List ℕ
lit d i = rec kind.LIT (d ∷ i ∷ 0 ∷ 0 ∷ 0 ∷ 0 ∷ 0 ∷ 0 ∷ 0 ∷ [])

-- the LEVEL of a version of level 0
abbrev pub low : List ℕ
low = rec kind.LEVEL (0 ∷ [])

-- image I, identity, as the paper writes it, with its level: a VERSION, its LEVEL and its BLOCK
abbrev pub I : List ℕ
I =
    0x0B ∷ 0x00 ∷ 0x01 ∷ 0x00 ∷ 0x00 ∷ 0x00 ∷ 0x01 ∷ 0x01 ∷ 0x02 ∷ 0x01 ∷ 0x02 ∷
    0x05 ∷ 0x00 ∷ 0x03 ∷ 0x00 ∷ 0x00 ∷
    0x07 ∷ 0x00 ∷ 0x02 ∷ 0x00 ∷ 0x00 ∷ 0x00 ∷ 0x00 ∷ []

-- two integer registers, one parameter, result register 1, no instruction
abbrev pub unassigned : List ℕ
unassigned =
    rec kind.VERSION (0 ∷ 0 ∷ 1 ∷ 2 ∷ 2 ∷ 1 ∷ 2 ∷ 2 ∷ []) ++
    low ++
    rec kind.BLOCK (0 ∷ 1 ∷ 0 ∷ [])

-- DUP of the shared parameter 0 into the owned register 1, SET place 0 of the register a to 42, register 1 returned owned
abbrev pub set_on : ℕ → List ℕ
set_on a =
    rec kind.VERSION (0 ∷ 0 ∷ 1 ∷ 4 ∷ 0x13 ∷ 1 ∷ 0x03 ∷ 0x13 ∷ 0x02 ∷ 0x02 ∷ []) ++
    low ++
    rec kind.BLOCK (0 ∷ 1 ∷ 4 ∷ []) ++
    rec kind.DUP (1 ∷ 0 ∷ []) ++
    lit 2 0 ++
    lit 3 42 ++
    rec kind.SET (a ∷ 2 ∷ 3 ∷ [])

-- what the operation op gives of the two parameters
abbrev pub computing : ℕ → List ℕ
computing op =
    rec kind.VERSION (0 ∷ 0 ∷ 2 ∷ 3 ∷ 2 ∷ 1 ∷ 2 ∷ 2 ∷ 2 ∷ []) ++
    low ++
    rec kind.BLOCK (0 ∷ 2 ∷ 1 ∷ []) ++
    rec kind.ARITH (2 ∷ op ∷ 0 ∷ 1 ∷ [])

-- the first parameter divided by the second
abbrev pub quotient : List ℕ
quotient = computing 3

-- a body that calls itself
abbrev pub endless : List ℕ
endless =
    rec kind.VERSION (0 ∷ 0 ∷ 0 ∷ 1 ∷ 2 ∷ 1 ∷ 2 ∷ []) ++
    low ++
    rec kind.BLOCK (0 ∷ 0 ∷ 1 ∷ []) ++
    rec kind.CALL (0 ∷ 0 ∷ 0 ∷ 0 ∷ [])

-- ---- the table

-- Proved cases: a row for each of P1 to P11
unfoldable pub cases : List Row
cases =
    -- P1 empty image: 1 at 0
    row [] 0 0 [] 1 (lent 16) (refused 1 at 0) 0 (lent 16) ∷
    -- P2 I with −1, 7: budget 1 gives DONE 7, 1 step
    row I 0 0 (neg 1 ∷ pos 7 ∷ []) 1 (lent 16) (integer (pos 7)) 1 (lent 16) ∷
    -- P3 budget 0 gives STEPS, 0
    row I 0 0 (neg 1 ∷ pos 7 ∷ []) 0 (lent 16) Answer.Steps 0 (lent 16) ∷
    -- P4 I without its last byte: 2 at 16
    row (take 22 I) 0 0 (neg 1 ∷ pos 7 ∷ []) 1 (lent 16) (refused 2 at 16) 0 (lent 16) ∷
    -- P5 I with type 0x12: 6 at 0
    row (set I 10 0x12) 0 0 (neg 1 ∷ pos 7 ∷ []) 1 (lent 16) (refused 6 at 0) 0 (lent 16) ∷
    -- P6 two integer registers, one parameter, result register 1, no instruction: 10 at 0
    row unassigned 0 0 (neg 1 ∷ pos 7 ∷ []) 1 (lent 16) (refused 10 at 0) 0 (lent 16) ∷
    -- P7 DUP of a shared vector [1], SET place 0 to 42, returned owned: DONE [42]
    row (set_on 1) 0 0 (pos 1 ∷ pos 1 ∷ []) 100 (lent 18) (vector 1) 5 (pos 42 ∷ lent_from 1 17) ∷
    -- P8 on an empty vector UNDEF
    row (set_on 1) 0 0 (pos 0 ∷ []) 100 (lent 16) undef 4 (lent 16) ∷
    -- P9 SET on the shared one: 8
    row (set_on 0) 0 0 (pos 1 ∷ pos 1 ∷ []) 100 (lent 16) (refused 8 at 58) 0 (lent 16) ∷
    -- P10 −7 divided by 2 is −4
    row quotient 0 0 (neg 1 ∷ neg 7 ∷ neg 1 ∷ pos 2 ∷ []) 100 (lent 17) (integer (neg 4)) 2 (lent 17) ∷
    -- P11 a body that calls itself, budget 32: DEEP after 31 steps
    row endless 0 0 [] 32 (lent 16) deep 31 (lent 16) ∷
    []
