-- Image: the kinds of records, each named once.
use Rattle.std.specs.Prelude.{ℕ}

-- VERSION: function, version, parameters, registers, return type, blocks, one type per register
abbrev pub VERSION : ℕ
VERSION = 1

-- BLOCK: mark, result register, instruction count
abbrev pub BLOCK : ℕ
BLOCK = 2

-- 02, 7: LEVEL: level, right after each VERSION
abbrev pub LEVEL : ℕ
LEVEL = 3

-- LIT d, i32: the literal of the 32-bit form, which the form in force does not know
abbrev pub NARROW-LIT : ℕ
NARROW-LIT = 16

-- MOVE d a
abbrev pub MOVE : ℕ
MOVE = 17

-- USE d a
abbrev pub USE : ℕ
USE = 18

-- DUP d a
abbrev pub DUP : ℕ
DUP = 19

-- VEC d n r1..rn
abbrev pub VEC : ℕ
VEC = 20

-- LEN d a
abbrev pub LEN : ℕ
LEN = 21

-- GET d a i
abbrev pub GET : ℕ
GET = 22

-- SET a i e
abbrev pub SET : ℕ
SET = 23

-- ARITH d op a b
abbrev pub ARITH : ℕ
ARITH = 24

-- SELECT d c a b
abbrev pub SELECT : ℕ
SELECT = 25

-- CAST d a
abbrev pub CAST : ℕ
CAST = 26

-- NAMED d x
abbrev pub NAMED : ℕ
NAMED = 27

-- STORE x a
abbrev pub STORE : ℕ
STORE = 28

-- PROM d block
abbrev pub PROM : ℕ
PROM = 29

-- FORCE d a
abbrev pub FORCE : ℕ
FORCE = 30

-- PEEK d a x
abbrev pub PEEK : ℕ
PEEK = 31

-- POKE a x e
abbrev pub POKE : ℕ
POKE = 32

-- CALL d function version n r1..rn
abbrev pub CALL : ℕ
CALL = 33

-- DISPATCH d function mark return n, then n pairs (type, register)
abbrev pub DISPATCH : ℕ
DISPATCH = 34

-- SKIP a n
abbrev pub SKIP : ℕ
SKIP = 35

-- LIT d, i64: the literal of the 64-bit form
abbrev pub LIT : ℕ
LIT = 36
