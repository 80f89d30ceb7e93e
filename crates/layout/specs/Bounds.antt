-- Image: the bounds, each named once. FUNCTIONS, VERSIONS, LEVELS, NAMES, MARKS and OPERATIONS count numbers from 0 on; the others are greatest counts.
use Rattle.std.specs.Prelude.{ℕ}

-- bytes of an image
abbrev pub IMAGE : ℕ
IMAGE = 32768

-- functions: 0..31
abbrev pub FUNCTIONS : ℕ
FUNCTIONS = 32

-- versions of a function: 0..3
abbrev pub VERSIONS : ℕ
VERSIONS = 4

-- versions in all
abbrev pub ALL-VERSIONS : ℕ
ALL-VERSIONS = 64

-- 02, 7: levels of a version: 0..2
abbrev pub LEVELS : ℕ
LEVELS = 3

-- registers of a version: 1..16
abbrev pub REGISTERS : ℕ
REGISTERS = 16

-- parameters of a version, which are at most its registers too
abbrev pub PARAMETERS : ℕ
PARAMETERS = 8

-- blocks of a version: 1..8
abbrev pub BLOCKS : ℕ
BLOCKS = 8

-- instructions of a block: 0..48
abbrev pub INSTRUCTIONS : ℕ
INSTRUCTIONS = 48

-- n of VEC, CALL and DISPATCH
abbrev pub OPERANDS : ℕ
OPERANDS = 8

-- names of a frame
abbrev pub NAMES : ℕ
NAMES = 8

-- marks: 0 quiet, 1 reflective
abbrev pub MARKS : ℕ
MARKS = 2

-- operations of ARITH
abbrev pub OPERATIONS : ℕ
OPERATIONS = 5
