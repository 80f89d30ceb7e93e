-- Further cases that the paper decides, in a table of their own.
use Rattle.std.specs.Prelude.{List, [], ◌∷◌, ◌++◌, ℕ, pos, set, take, drop}
use Rattle.layout.specs.Kinds as kind
use Rattle.machine.specs.declared.Answer.{Answer}
use Rattle.machine.specs.declared.End.{End}
use Rattle.cases.specs.Table.{Row, row, at_level, neg, lent_from, lent, refused◌at◌, integer, vector, undef, rec, lit, low, I, quotient, endless}

-- ---- images

-- a promise parameter, forced
abbrev pub forcing : List ℕ
forcing =
    rec kind.VERSION (0 ∷ 0 ∷ 1 ∷ 2 ∷ 2 ∷ 1 ∷ 4 ∷ 2 ∷ []) ++
    low ++
    rec kind.BLOCK (0 ∷ 1 ∷ 1 ∷ []) ++
    rec kind.FORCE (1 ∷ 0 ∷ [])

-- the parameter is stored as the name 3, then the name x is read
abbrev pub storing : ℕ → List ℕ
storing x =
    rec kind.VERSION (0 ∷ 0 ∷ 1 ∷ 2 ∷ 1 ∷ 1 ∷ 2 ∷ 1 ∷ []) ++
    low ++
    rec kind.BLOCK (0 ∷ 1 ∷ 2 ∷ []) ++
    rec kind.STORE (3 ∷ 0 ∷ []) ++
    rec kind.NAMED (1 ∷ x ∷ [])

-- a value cast to a vector
abbrev pub casting : List ℕ
casting =
    rec kind.VERSION (0 ∷ 0 ∷ 1 ∷ 2 ∷ 3 ∷ 1 ∷ 1 ∷ 3 ∷ []) ++
    low ++
    rec kind.BLOCK (0 ∷ 1 ∷ 1 ∷ []) ++
    rec kind.CAST (1 ∷ 0 ∷ [])

-- the second parameter or the third, by the first
abbrev pub selecting : List ℕ
selecting =
    rec kind.VERSION (0 ∷ 0 ∷ 3 ∷ 4 ∷ 2 ∷ 1 ∷ 2 ∷ 2 ∷ 2 ∷ 2 ∷ []) ++
    low ++
    rec kind.BLOCK (0 ∷ 3 ∷ 1 ∷ []) ++
    rec kind.SELECT (3 ∷ 0 ∷ 1 ∷ 2 ∷ [])

-- a copy of the parameter, used, returned owned
abbrev pub emptying : List ℕ
emptying =
    rec kind.VERSION (0 ∷ 0 ∷ 1 ∷ 3 ∷ 0x13 ∷ 1 ∷ 0x03 ∷ 0x13 ∷ 0x13 ∷ []) ++
    low ++
    rec kind.BLOCK (0 ∷ 2 ∷ 2 ∷ []) ++
    rec kind.DUP (1 ∷ 0 ∷ []) ++
    rec kind.USE (2 ∷ 1 ∷ [])

-- the item of a vector that the second parameter says
abbrev pub getting : List ℕ
getting =
    rec kind.VERSION (0 ∷ 0 ∷ 2 ∷ 3 ∷ 2 ∷ 1 ∷ 3 ∷ 2 ∷ 2 ∷ []) ++
    low ++
    rec kind.BLOCK (0 ∷ 2 ∷ 1 ∷ []) ++
    rec kind.GET (2 ∷ 0 ∷ 1 ∷ [])

-- 0.0 stores 5 as its name 1 and gives 1.0 a promise of its frame; 1.0 copies that name to the name 2, which 0.0 returns
abbrev pub peeking : List ℕ
peeking =
    rec kind.VERSION (0 ∷ 0 ∷ 0 ∷ 3 ∷ 1 ∷ 2 ∷ 2 ∷ 4 ∷ 1 ∷ []) ++
    low ++
    rec kind.BLOCK (1 ∷ 2 ∷ 5 ∷ []) ++
    lit 0 5 ++
    rec kind.STORE (1 ∷ 0 ∷ []) ++
    rec kind.PROM (1 ∷ 1 ∷ []) ++
    rec kind.CALL (2 ∷ 1 ∷ 0 ∷ 1 ∷ 1 ∷ []) ++
    rec kind.NAMED (2 ∷ 2 ∷ []) ++
    rec kind.BLOCK (0 ∷ 0 ∷ 0 ∷ []) ++
    rec kind.VERSION (1 ∷ 0 ∷ 1 ∷ 2 ∷ 1 ∷ 1 ∷ 4 ∷ 1 ∷ []) ++
    low ++
    rec kind.BLOCK (1 ∷ 1 ∷ 2 ∷ []) ++
    rec kind.PEEK (1 ∷ 0 ∷ 1 ∷ []) ++
    rec kind.POKE (0 ∷ 2 ∷ 1 ∷ [])

-- a promise of n + (a promise of n × n), forced twice
abbrev pub nested : List ℕ
nested =
    rec kind.VERSION (0 ∷ 0 ∷ 1 ∷ 4 ∷ 2 ∷ 3 ∷ 2 ∷ 2 ∷ 4 ∷ 4 ∷ []) ++
    low ++
    rec kind.BLOCK (0 ∷ 1 ∷ 4 ∷ []) ++
    rec kind.PROM (2 ∷ 1 ∷ []) ++
    rec kind.PROM (3 ∷ 2 ∷ []) ++
    rec kind.FORCE (1 ∷ 3 ∷ []) ++
    rec kind.FORCE (1 ∷ 3 ∷ []) ++
    rec kind.BLOCK (0 ∷ 1 ∷ 1 ∷ []) ++
    rec kind.ARITH (1 ∷ 2 ∷ 0 ∷ 0 ∷ []) ++
    rec kind.BLOCK (0 ∷ 1 ∷ 2 ∷ []) ++
    rec kind.FORCE (1 ∷ 2 ∷ []) ++
    rec kind.ARITH (1 ∷ 0 ∷ 1 ∷ 0 ∷ [])

-- two promises that force each other
abbrev pub circle : List ℕ
circle =
    rec kind.VERSION (0 ∷ 0 ∷ 0 ∷ 3 ∷ 2 ∷ 4 ∷ 2 ∷ 4 ∷ 4 ∷ []) ++
    low ++
    rec kind.BLOCK (0 ∷ 0 ∷ 5 ∷ []) ++
    lit 0 1 ++
    rec kind.PROM (1 ∷ 1 ∷ []) ++
    rec kind.PROM (2 ∷ 2 ∷ []) ++
    rec kind.PROM (1 ∷ 3 ∷ []) ++
    rec kind.FORCE (0 ∷ 1 ∷ []) ++
    rec kind.BLOCK (0 ∷ 0 ∷ 0 ∷ []) ++
    rec kind.BLOCK (0 ∷ 0 ∷ 1 ∷ []) ++
    rec kind.FORCE (0 ∷ 1 ∷ []) ++
    rec kind.BLOCK (0 ∷ 0 ∷ 1 ∷ []) ++
    rec kind.FORCE (0 ∷ 2 ∷ [])

-- a quiet DISPATCH of the function 1, which has a version for vectors, a reflective one for integers, and a quiet one for integers that returns kind r
abbrev pub dispatching : ℕ → List ℕ
dispatching r =
    rec kind.VERSION (0 ∷ 0 ∷ 1 ∷ 2 ∷ 2 ∷ 1 ∷ 0 ∷ 2 ∷ []) ++
    low ++
    rec kind.BLOCK (0 ∷ 1 ∷ 1 ∷ []) ++
    rec kind.DISPATCH (1 ∷ 1 ∷ 0 ∷ 2 ∷ 1 ∷ 0 ∷ 0 ∷ []) ++
    rec kind.VERSION (1 ∷ 0 ∷ 1 ∷ 2 ∷ 2 ∷ 1 ∷ 3 ∷ 2 ∷ []) ++
    low ++
    rec kind.BLOCK (0 ∷ 1 ∷ 1 ∷ []) ++
    rec kind.LEN (1 ∷ 0 ∷ []) ++
    rec kind.VERSION (1 ∷ 1 ∷ 1 ∷ 1 ∷ 2 ∷ 1 ∷ 2 ∷ []) ++
    low ++
    rec kind.BLOCK (1 ∷ 0 ∷ 0 ∷ []) ++
    rec kind.VERSION (1 ∷ 2 ∷ 1 ∷ 2 ∷ r ∷ 1 ∷ 2 ∷ 2 ∷ []) ++
    low ++
    rec kind.BLOCK (0 ∷ 1 ∷ 1 ∷ []) ++
    rec kind.ARITH (1 ∷ 0 ∷ 0 ∷ 0 ∷ [])

-- 1.0 borrows a vector twice and gives its length, 1.1 owns it, sets place 1 to −3 and returns it
abbrev pub owning : List ℕ
owning =
    rec kind.VERSION (0 ∷ 0 ∷ 1 ∷ 4 ∷ 0x13 ∷ 1 ∷ 0x03 ∷ 0x13 ∷ 0x13 ∷ 0x02 ∷ []) ++
    low ++
    rec kind.BLOCK (0 ∷ 2 ∷ 3 ∷ []) ++
    rec kind.DUP (1 ∷ 0 ∷ []) ++
    rec kind.CALL (3 ∷ 1 ∷ 0 ∷ 2 ∷ 1 ∷ 1 ∷ []) ++
    rec kind.CALL (2 ∷ 1 ∷ 1 ∷ 1 ∷ 1 ∷ []) ++
    rec kind.VERSION (1 ∷ 0 ∷ 2 ∷ 3 ∷ 2 ∷ 1 ∷ 0x23 ∷ 0x23 ∷ 2 ∷ []) ++
    low ++
    rec kind.BLOCK (0 ∷ 2 ∷ 1 ∷ []) ++
    rec kind.LEN (2 ∷ 1 ∷ []) ++
    rec kind.VERSION (1 ∷ 1 ∷ 1 ∷ 3 ∷ 0x13 ∷ 1 ∷ 0x13 ∷ 2 ∷ 2 ∷ []) ++
    low ++
    rec kind.BLOCK (0 ∷ 0 ∷ 3 ∷ []) ++
    lit 1 1 ++
    rec kind.LIT (2 ∷ 0xFD ∷ 0xFF ∷ 0xFF ∷ 0xFF ∷ 0xFF ∷ 0xFF ∷ 0xFF ∷ 0xFF ∷ []) ++
    rec kind.SET (0 ∷ 1 ∷ 2 ∷ [])

-- four vectors in four registers, one more into the register 0, then the body calls itself
abbrev pub vectors : List ℕ
vectors =
    rec kind.VERSION (0 ∷ 0 ∷ 0 ∷ 4 ∷ 1 ∷ 1 ∷ 1 ∷ 1 ∷ 1 ∷ 1 ∷ []) ++
    low ++
    rec kind.BLOCK (0 ∷ 0 ∷ 6 ∷ []) ++
    rec kind.VEC (0 ∷ 0 ∷ []) ++
    rec kind.VEC (1 ∷ 0 ∷ []) ++
    rec kind.VEC (2 ∷ 0 ∷ []) ++
    rec kind.VEC (3 ∷ 0 ∷ []) ++
    rec kind.VEC (0 ∷ 0 ∷ []) ++
    rec kind.CALL (0 ∷ 0 ∷ 0 ∷ 0 ∷ [])

-- seven promises, then the body calls itself
abbrev pub promises : List ℕ
promises =
    rec kind.VERSION (0 ∷ 0 ∷ 0 ∷ 8 ∷ 2 ∷ 8 ∷ 2 ∷ 4 ∷ 4 ∷ 4 ∷ 4 ∷ 4 ∷ 4 ∷ 4 ∷ []) ++
    low ++
    rec kind.BLOCK (0 ∷ 0 ∷ 9 ∷ []) ++
    lit 0 1 ++
    rec kind.PROM (1 ∷ 1 ∷ []) ++
    rec kind.PROM (2 ∷ 2 ∷ []) ++
    rec kind.PROM (3 ∷ 3 ∷ []) ++
    rec kind.PROM (4 ∷ 4 ∷ []) ++
    rec kind.PROM (5 ∷ 5 ∷ []) ++
    rec kind.PROM (6 ∷ 6 ∷ []) ++
    rec kind.PROM (7 ∷ 7 ∷ []) ++
    rec kind.CALL (0 ∷ 0 ∷ 0 ∷ 0 ∷ []) ++
    rec kind.BLOCK (0 ∷ 0 ∷ 0 ∷ []) ++
    rec kind.BLOCK (0 ∷ 0 ∷ 0 ∷ []) ++
    rec kind.BLOCK (0 ∷ 0 ∷ 0 ∷ []) ++
    rec kind.BLOCK (0 ∷ 0 ∷ 0 ∷ []) ++
    rec kind.BLOCK (0 ∷ 0 ∷ 0 ∷ []) ++
    rec kind.BLOCK (0 ∷ 0 ∷ 0 ∷ []) ++
    rec kind.BLOCK (0 ∷ 0 ∷ 0 ∷ [])

-- the register 1 gets 5, and then 9 unless n instructions are passed over
abbrev pub skipping : ℕ → List ℕ
skipping n =
    rec kind.VERSION (0 ∷ 0 ∷ 1 ∷ 2 ∷ 2 ∷ 1 ∷ 2 ∷ 2 ∷ []) ++
    low ++
    rec kind.BLOCK (0 ∷ 1 ∷ 3 ∷ []) ++
    lit 1 5 ++
    rec kind.SKIP (0 ∷ n ∷ []) ++
    lit 1 9

-- a SKIP of n in the part of two instructions that another passes over, then the result is doubled
abbrev pub skipping_twice : ℕ → List ℕ
skipping_twice n =
    rec kind.VERSION (0 ∷ 0 ∷ 2 ∷ 3 ∷ 2 ∷ 1 ∷ 2 ∷ 2 ∷ 2 ∷ []) ++
    low ++
    rec kind.BLOCK (0 ∷ 2 ∷ 5 ∷ []) ++
    lit 2 5 ++
    rec kind.SKIP (0 ∷ 2 ∷ []) ++
    rec kind.SKIP (1 ∷ n ∷ []) ++
    lit 2 9 ++
    rec kind.ARITH (2 ∷ 0 ∷ 2 ∷ 2 ∷ [])

-- a register that only one way assigned is read
abbrev pub assigned_on_one_way : List ℕ
assigned_on_one_way =
    rec kind.VERSION (0 ∷ 0 ∷ 1 ∷ 2 ∷ 2 ∷ 1 ∷ 2 ∷ 2 ∷ []) ++
    low ++
    rec kind.BLOCK (0 ∷ 1 ∷ 2 ∷ []) ++
    rec kind.SKIP (0 ∷ 1 ∷ []) ++
    lit 1 9

-- a register that only one way emptied is read
abbrev pub emptied_on_one_way : List ℕ
emptied_on_one_way =
    rec kind.VERSION (0 ∷ 0 ∷ 2 ∷ 4 ∷ 2 ∷ 1 ∷ 2 ∷ 0x13 ∷ 0x13 ∷ 2 ∷ []) ++
    low ++
    rec kind.BLOCK (0 ∷ 3 ∷ 3 ∷ []) ++
    rec kind.SKIP (0 ∷ 1 ∷ []) ++
    rec kind.USE (2 ∷ 1 ∷ []) ++
    rec kind.LEN (3 ∷ 1 ∷ [])

-- a register that a promise captured on one way only is emptied
abbrev pub captured_on_one_way : List ℕ
captured_on_one_way =
    rec kind.VERSION (0 ∷ 0 ∷ 2 ∷ 5 ∷ 0x13 ∷ 2 ∷ 2 ∷ 0x13 ∷ 0x13 ∷ 4 ∷ 2 ∷ []) ++
    low ++
    rec kind.BLOCK (0 ∷ 2 ∷ 3 ∷ []) ++
    rec kind.SKIP (0 ∷ 1 ∷ []) ++
    rec kind.PROM (3 ∷ 1 ∷ []) ++
    rec kind.USE (2 ∷ 1 ∷ []) ++
    rec kind.BLOCK (0 ∷ 4 ∷ 1 ∷ []) ++
    rec kind.LEN (4 ∷ 1 ∷ [])

-- the parameter used into itself
abbrev pub used_again : List ℕ
used_again =
    rec kind.VERSION (0 ∷ 0 ∷ 1 ∷ 1 ∷ 0x13 ∷ 1 ∷ 0x13 ∷ []) ++
    low ++
    rec kind.BLOCK (0 ∷ 0 ∷ 1 ∷ []) ++
    rec kind.USE (0 ∷ 0 ∷ [])

-- the parameter given to 1.0, whose result takes its place
abbrev pub given_back : List ℕ
given_back =
    rec kind.VERSION (0 ∷ 0 ∷ 1 ∷ 1 ∷ 0x13 ∷ 1 ∷ 0x13 ∷ []) ++
    low ++
    rec kind.BLOCK (0 ∷ 0 ∷ 1 ∷ []) ++
    rec kind.CALL (0 ∷ 1 ∷ 0 ∷ 1 ∷ 0 ∷ []) ++
    rec kind.VERSION (1 ∷ 0 ∷ 1 ∷ 1 ∷ 0x13 ∷ 1 ∷ 0x13 ∷ []) ++
    low ++
    rec kind.BLOCK (0 ∷ 0 ∷ 0 ∷ [])

-- the parameter is emptied, filled again, and captured by a promise of its length
abbrev pub refilled_then_captured : List ℕ
refilled_then_captured =
    rec kind.VERSION (0 ∷ 0 ∷ 1 ∷ 4 ∷ 2 ∷ 2 ∷ 0x13 ∷ 0x13 ∷ 4 ∷ 2 ∷ []) ++
    low ++
    rec kind.BLOCK (0 ∷ 3 ∷ 4 ∷ []) ++
    rec kind.USE (1 ∷ 0 ∷ []) ++
    rec kind.DUP (0 ∷ 1 ∷ []) ++
    rec kind.PROM (2 ∷ 1 ∷ []) ++
    rec kind.FORCE (3 ∷ 2 ∷ []) ++
    rec kind.BLOCK (0 ∷ 3 ∷ 1 ∷ []) ++
    rec kind.LEN (3 ∷ 0 ∷ [])

-- the parameter is captured, then used into itself
abbrev pub captured_then_used : List ℕ
captured_then_used =
    rec kind.VERSION (0 ∷ 0 ∷ 1 ∷ 3 ∷ 2 ∷ 2 ∷ 0x13 ∷ 4 ∷ 2 ∷ []) ++
    low ++
    rec kind.BLOCK (0 ∷ 2 ∷ 3 ∷ []) ++
    rec kind.PROM (1 ∷ 1 ∷ []) ++
    rec kind.USE (0 ∷ 0 ∷ []) ++
    rec kind.FORCE (2 ∷ 1 ∷ []) ++
    rec kind.BLOCK (0 ∷ 2 ∷ 1 ∷ []) ++
    rec kind.LEN (2 ∷ 0 ∷ [])

-- an emptied register is filled again on one way only, then read
abbrev pub refilled_on_one_way : List ℕ
refilled_on_one_way =
    rec kind.VERSION (0 ∷ 0 ∷ 2 ∷ 4 ∷ 2 ∷ 1 ∷ 2 ∷ 0x13 ∷ 0x13 ∷ 2 ∷ []) ++
    low ++
    rec kind.BLOCK (0 ∷ 3 ∷ 4 ∷ []) ++
    rec kind.USE (2 ∷ 1 ∷ []) ++
    rec kind.SKIP (0 ∷ 1 ∷ []) ++
    rec kind.DUP (1 ∷ 2 ∷ []) ++
    rec kind.LEN (3 ∷ 1 ∷ [])

-- an emptied register is read before it is filled again
abbrev pub read_before_refill : List ℕ
read_before_refill =
    rec kind.VERSION (0 ∷ 0 ∷ 1 ∷ 3 ∷ 2 ∷ 1 ∷ 0x13 ∷ 0x13 ∷ 2 ∷ []) ++
    low ++
    rec kind.BLOCK (0 ∷ 2 ∷ 3 ∷ []) ++
    rec kind.USE (1 ∷ 0 ∷ []) ++
    rec kind.LEN (2 ∷ 0 ∷ []) ++
    rec kind.DUP (0 ∷ 1 ∷ [])

-- one owned register given as owned and borrowed in one call
abbrev pub twice : List ℕ
twice =
    rec kind.VERSION (0 ∷ 0 ∷ 1 ∷ 3 ∷ 2 ∷ 1 ∷ 0x03 ∷ 0x13 ∷ 0x02 ∷ []) ++
    low ++
    rec kind.BLOCK (0 ∷ 2 ∷ 2 ∷ []) ++
    rec kind.DUP (1 ∷ 0 ∷ []) ++
    rec kind.CALL (2 ∷ 1 ∷ 0 ∷ 2 ∷ 1 ∷ 1 ∷ []) ++
    rec kind.VERSION (1 ∷ 0 ∷ 2 ∷ 3 ∷ 2 ∷ 1 ∷ 0x13 ∷ 0x23 ∷ 0x02 ∷ []) ++
    low ++
    rec kind.BLOCK (0 ∷ 2 ∷ 1 ∷ []) ++
    rec kind.LEN (2 ∷ 0 ∷ [])

-- a register that only a forced block assigned is read
abbrev pub assigned_by_force : List ℕ
assigned_by_force =
    rec kind.VERSION (0 ∷ 0 ∷ 0 ∷ 3 ∷ 2 ∷ 2 ∷ 2 ∷ 4 ∷ 2 ∷ []) ++
    low ++
    rec kind.BLOCK (0 ∷ 2 ∷ 2 ∷ []) ++
    rec kind.PROM (1 ∷ 1 ∷ []) ++
    rec kind.FORCE (0 ∷ 1 ∷ []) ++
    rec kind.BLOCK (0 ∷ 2 ∷ 1 ∷ []) ++
    lit 2 5

-- a register is emptied after a promise captured it
abbrev pub captured : List ℕ
captured =
    rec kind.VERSION (0 ∷ 0 ∷ 1 ∷ 4 ∷ 0x13 ∷ 2 ∷ 0x13 ∷ 4 ∷ 2 ∷ 0x13 ∷ []) ++
    low ++
    rec kind.BLOCK (0 ∷ 3 ∷ 2 ∷ []) ++
    rec kind.PROM (1 ∷ 1 ∷ []) ++
    rec kind.USE (3 ∷ 0 ∷ []) ++
    rec kind.BLOCK (0 ∷ 2 ∷ 1 ∷ []) ++
    rec kind.LEN (2 ∷ 0 ∷ [])

-- 0.0 of level l calls 1.0 of level m, which returns 7
abbrev pub calling : ℕ → ℕ → List ℕ
calling l m =
    rec kind.VERSION (0 ∷ 0 ∷ 0 ∷ 1 ∷ 2 ∷ 1 ∷ 2 ∷ []) ++
    rec kind.LEVEL (l ∷ []) ++
    rec kind.BLOCK (0 ∷ 0 ∷ 1 ∷ []) ++
    rec kind.CALL (0 ∷ 1 ∷ 0 ∷ 0 ∷ []) ++
    rec kind.VERSION (1 ∷ 0 ∷ 0 ∷ 1 ∷ 2 ∷ 1 ∷ 2 ∷ []) ++
    rec kind.LEVEL (m ∷ []) ++
    rec kind.BLOCK (0 ∷ 0 ∷ 1 ∷ []) ++
    lit 0 7

-- 0.0 of level l picks 1.0 of level m, which returns 7, or else 1.1, which returns 8
abbrev pub picking : ℕ → ℕ → List ℕ
picking l m =
    rec kind.VERSION (0 ∷ 0 ∷ 0 ∷ 1 ∷ 2 ∷ 1 ∷ 2 ∷ []) ++
    rec kind.LEVEL (l ∷ []) ++
    rec kind.BLOCK (0 ∷ 0 ∷ 1 ∷ []) ++
    rec kind.DISPATCH (0 ∷ 1 ∷ 0 ∷ 2 ∷ 0 ∷ []) ++
    rec kind.VERSION (1 ∷ 0 ∷ 0 ∷ 1 ∷ 2 ∷ 1 ∷ 2 ∷ []) ++
    rec kind.LEVEL (m ∷ []) ++
    rec kind.BLOCK (0 ∷ 0 ∷ 1 ∷ []) ++
    lit 0 7 ++
    rec kind.VERSION (1 ∷ 1 ∷ 0 ∷ 1 ∷ 2 ∷ 1 ∷ 2 ∷ []) ++
    low ++
    rec kind.BLOCK (0 ∷ 0 ∷ 1 ∷ []) ++
    lit 0 8

-- 0.0 of level l hands a promise to 1.0 of level 0, which forces it; its block picks 2.0 of level m, which returns 7, or else 2.1 of level n, which returns 8
abbrev pub forced_below : ℕ → ℕ → ℕ → List ℕ
forced_below l m n =
    rec kind.VERSION (0 ∷ 0 ∷ 0 ∷ 3 ∷ 2 ∷ 2 ∷ 2 ∷ 4 ∷ 2 ∷ []) ++
    rec kind.LEVEL (l ∷ []) ++
    rec kind.BLOCK (0 ∷ 0 ∷ 2 ∷ []) ++
    rec kind.PROM (1 ∷ 1 ∷ []) ++
    rec kind.CALL (0 ∷ 1 ∷ 0 ∷ 1 ∷ 1 ∷ []) ++
    rec kind.BLOCK (0 ∷ 2 ∷ 1 ∷ []) ++
    rec kind.DISPATCH (2 ∷ 2 ∷ 0 ∷ 2 ∷ 0 ∷ []) ++
    rec kind.VERSION (1 ∷ 0 ∷ 1 ∷ 2 ∷ 2 ∷ 1 ∷ 4 ∷ 2 ∷ []) ++
    low ++
    rec kind.BLOCK (0 ∷ 1 ∷ 1 ∷ []) ++
    rec kind.FORCE (1 ∷ 0 ∷ []) ++
    rec kind.VERSION (2 ∷ 0 ∷ 0 ∷ 1 ∷ 2 ∷ 1 ∷ 2 ∷ []) ++
    rec kind.LEVEL (m ∷ []) ++
    rec kind.BLOCK (0 ∷ 0 ∷ 1 ∷ []) ++
    lit 0 7 ++
    rec kind.VERSION (2 ∷ 1 ∷ 0 ∷ 1 ∷ 2 ∷ 1 ∷ 2 ∷ []) ++
    rec kind.LEVEL (n ∷ []) ++
    rec kind.BLOCK (0 ∷ 0 ∷ 1 ∷ []) ++
    lit 0 8

-- ---- the table

-- rows for 11, 19, 12 and 13 of "Questions put to an image" and for "Steps", for SKIP, 14, registers filled again and levels; the last four for "Mistakes to rule out"
unfoldable pub further : List Row
further =
    -- 11 comes before 12 and 13
    row I 1 0 [] 1 (lent 15) (refused 11 at 0) 0 (lent 15) ∷
    -- 12: no word; an integer missing; a vector for an integer; a word left over; neither −1 nor a length
    row I 0 0 [] 1 (lent 15) (refused 12 at 0) 0 (lent 15) ∷
    row I 0 0 (neg 1 ∷ []) 1 (lent 16) (refused 12 at 0) 0 (lent 16) ∷
    row I 0 0 (pos 1 ∷ pos 7 ∷ []) 1 (lent 16) (refused 12 at 0) 0 (lent 16) ∷
    row I 0 0 (neg 1 ∷ pos 7 ∷ pos 8 ∷ []) 1 (lent 16) (refused 12 at 0) 0 (lent 16) ∷
    row I 0 0 (neg 2 ∷ pos 7 ∷ []) 1 (lent 16) (refused 12 at 0) 0 (lent 16) ∷
    -- 12: a promise parameter never matches
    row forcing 0 0 (neg 1 ∷ pos 7 ∷ []) 1 (lent 16) (refused 12 at 0) 0 (lent 16) ∷
    -- 13: has the result buffer at least 16 places?
    row I 0 0 (neg 1 ∷ pos 7 ∷ []) 1 (lent 15) (refused 13 at 0) 0 (lent 15) ∷
    -- names; UNDEF: unset name
    row (storing 3) 0 0 (neg 1 ∷ pos 7 ∷ []) 9 (lent 16) (integer (pos 7)) 3 (lent 16) ∷
    row (storing 4) 0 0 (neg 1 ∷ pos 7 ∷ []) 9 (lent 16) undef 2 (lent 16) ∷
    -- a CAST that goes well, and UNDEF: failed CAST
    row casting 0 0 (pos 2 ∷ pos 5 ∷ neg 6 ∷ []) 9 (lent 16) (vector 2) 2 (pos 5 ∷ neg 6 ∷ lent_from 2 14) ∷
    row casting 0 0 (neg 1 ∷ pos 5 ∷ []) 9 (lent 16) undef 1 (lent 16) ∷
    -- SELECT gives a if c is not 0, else b
    row selecting 0 0 (neg 1 ∷ neg 9 ∷ neg 1 ∷ pos 4 ∷ neg 1 ∷ pos 5 ∷ []) 9 (lent 16) (integer (pos 4)) 2 (lent 16) ∷
    row selecting 0 0 (neg 1 ∷ pos 0 ∷ neg 1 ∷ pos 4 ∷ neg 1 ∷ pos 5 ∷ []) 9 (lent 16) (integer (pos 5)) 2 (lent 16) ∷
    -- USE; 16 items are written, all else in the buffer stays
    row emptying 0 0 (pos 16 ∷ lent_from 50 16) 9 (lent 18) (vector 16) 3 (lent_from 50 16 ++ lent_from 16 2) ∷
    -- UNDEF: GET index outside, on both sides
    row getting 0 0 (pos 2 ∷ pos 5 ∷ pos 6 ∷ neg 1 ∷ pos 1 ∷ []) 9 (lent 16) (integer (pos 6)) 2 (lent 16) ∷
    row getting 0 0 (pos 2 ∷ pos 5 ∷ pos 6 ∷ neg 1 ∷ pos 2 ∷ []) 9 (lent 16) undef 1 (lent 16) ∷
    row getting 0 0 (pos 2 ∷ pos 5 ∷ pos 6 ∷ neg 1 ∷ neg 1 ∷ []) 9 (lent 16) undef 1 (lent 16) ∷
    -- division rounds toward minus infinity; UNDEF: divide by 0, integer result out of range
    row quotient 0 0 (neg 1 ∷ pos 7 ∷ neg 1 ∷ neg 2 ∷ []) 9 (lent 16) (integer (neg 4)) 2 (lent 16) ∷
    row quotient 0 0 (neg 1 ∷ neg 7 ∷ neg 1 ∷ neg 2 ∷ []) 9 (lent 16) (integer (pos 3)) 2 (lent 16) ∷
    row quotient 0 0 (neg 1 ∷ neg 6 ∷ neg 1 ∷ pos 2 ∷ []) 9 (lent 16) (integer (neg 3)) 2 (lent 16) ∷
    row quotient 0 0 (neg 1 ∷ pos 6 ∷ neg 1 ∷ neg 2 ∷ []) 9 (lent 16) (integer (neg 3)) 2 (lent 16) ∷
    row quotient 0 0 (neg 1 ∷ pos 7 ∷ neg 1 ∷ pos 0 ∷ []) 9 (lent 16) undef 1 (lent 16) ∷
    -- PEEK and POKE act on the names of the promise's frame
    row peeking 0 0 [] 99 (lent 16) (integer (pos 5)) 9 (lent 16) ∷
    -- a force within a force; a force caches its integer
    row nested 0 0 (neg 1 ∷ pos 7 ∷ []) 99 (lent 16) (integer (pos 56)) 10 (lent 16) ∷
    -- STEPS: budget used before DONE or UNDEF
    row nested 0 0 (neg 1 ∷ pos 7 ∷ []) 9 (lent 16) Answer.Steps 9 (lent 16) ∷
    -- UNDEF: force of a promise being forced
    row circle 0 0 [] 99 (lent 16) undef 7 (lent 16) ∷
    -- DISPATCH picks the lowest version that fits: arguments matching; mark no greater; return within, else UNDEF: DISPATCH with no fit
    row (dispatching 2) 0 0 (pos 2 ∷ pos 5 ∷ pos 6 ∷ []) 9 (lent 16) (integer (pos 2)) 4 (lent 16) ∷
    row (dispatching 2) 0 0 (neg 1 ∷ pos 5 ∷ []) 9 (lent 16) (integer (pos 10)) 4 (lent 16) ∷
    row (dispatching 1) 0 0 (neg 1 ∷ pos 5 ∷ []) 9 (lent 16) undef 1 (lent 16) ∷
    -- an owned parameter empties its register, a borrowed one does not
    row owning 0 0 (pos 3 ∷ pos 7 ∷ pos 8 ∷ pos 9 ∷ []) 99 (lent 17) (vector 3) 10 (pos 7 ∷ neg 3 ∷ pos 9 ∷ lent_from 3 14) ∷
    -- VECTORS: 65th needed while 64 count, before d is overwritten
    row vectors 0 0 [] 999 (lent 16) (Answer.Ended End.Vectors) 94 (lent 16) ∷
    -- PROMISES
    row promises 0 0 [] 999 (lent 16) (Answer.Ended End.Promises) 83 (lent 16) ∷
    -- budget is looked at first
    row endless 0 0 [] 31 (lent 16) Answer.Steps 31 (lent 16) ∷
    -- SKIP: taken where a is 0, else not; a skip is one step; n may be 0
    row (skipping 1) 0 0 (neg 1 ∷ pos 0 ∷ []) 9 (lent 16) (integer (pos 5)) 3 (lent 16) ∷
    row (skipping 1) 0 0 (neg 1 ∷ neg 1 ∷ []) 9 (lent 16) (integer (pos 9)) 4 (lent 16) ∷
    row (skipping 0) 0 0 (neg 1 ∷ pos 0 ∷ []) 9 (lent 16) (integer (pos 9)) 4 (lent 16) ∷
    -- a SKIP in the part of another: passed over, taken, not taken
    row (skipping_twice 1) 0 0 (neg 1 ∷ pos 0 ∷ neg 1 ∷ pos 0 ∷ []) 9 (lent 16) (integer (pos 10)) 4 (lent 16) ∷
    row (skipping_twice 1) 0 0 (neg 1 ∷ pos 1 ∷ neg 1 ∷ pos 0 ∷ []) 9 (lent 16) (integer (pos 10)) 5 (lent 16) ∷
    row (skipping_twice 1) 0 0 (neg 1 ∷ pos 1 ∷ neg 1 ∷ pos 1 ∷ []) 9 (lent 16) (integer (pos 18)) 6 (lent 16) ∷
    -- 14: n goes past the end of the block; past the end of the part that the SKIP stands in
    row (skipping 2) 0 0 (neg 1 ∷ pos 0 ∷ []) 9 (lent 16) (refused 14 at 37) 0 (lent 16) ∷
    row (skipping 255) 0 0 (neg 1 ∷ pos 0 ∷ []) 9 (lent 16) (refused 14 at 37) 0 (lent 16) ∷
    row (skipping_twice 2) 0 0 (neg 1 ∷ pos 0 ∷ neg 1 ∷ pos 0 ∷ []) 9 (lent 16) (refused 14 at 44) 0 (lent 16) ∷
    -- 14 is asked after 7 and before 8: of a SKIP whose register is not there, and of one whose register is a vector
    row (set (skipping 255) 41 2) 0 0 (neg 1 ∷ pos 0 ∷ []) 9 (lent 16) (refused 7 at 37) 0 (lent 16) ∷
    row (set (skipping 255) 10 3) 0 0 (pos 0 ∷ []) 9 (lent 16) (refused 14 at 37) 0 (lent 16) ∷
    row (set (skipping 1) 10 3) 0 0 (pos 0 ∷ []) 9 (lent 16) (refused 8 at 37) 0 (lent 16) ∷
    -- ways join by what both assign, and by union of what they empty and capture: 10
    row assigned_on_one_way 0 0 (neg 1 ∷ pos 1 ∷ []) 9 (lent 16) (refused 10 at 0) 0 (lent 16) ∷
    row emptied_on_one_way 0 0 (neg 1 ∷ pos 0 ∷ pos 0 ∷ []) 9 (lent 16) (refused 10 at 0) 0 (lent 16) ∷
    row captured_on_one_way 0 0 (neg 1 ∷ pos 0 ∷ pos 0 ∷ []) 9 (lent 16) (refused 10 at 0) 0 (lent 16) ∷
    -- an emptied register is filled again: by the instruction that empties it, by the call that it is given to, before a capture
    row used_again 0 0 (pos 1 ∷ pos 7 ∷ []) 9 (lent 16) (vector 1) 2 (pos 7 ∷ lent_from 1 15) ∷
    row given_back 0 0 (pos 1 ∷ pos 7 ∷ []) 9 (lent 16) (vector 1) 3 (pos 7 ∷ lent_from 1 15) ∷
    row refilled_then_captured 0 0 (pos 1 ∷ pos 7 ∷ []) 9 (lent 16) (integer (pos 1)) 7 (lent 16) ∷
    -- a captured register is never emptied, also not by what fills it again; what one way alone fills, or what is read first: 10
    row captured_then_used 0 0 (pos 0 ∷ []) 9 (lent 16) (refused 10 at 0) 0 (lent 16) ∷
    row refilled_on_one_way 0 0 (neg 1 ∷ pos 1 ∷ pos 0 ∷ []) 9 (lent 16) (refused 10 at 0) 0 (lent 16) ∷
    row read_before_refill 0 0 (pos 0 ∷ []) 9 (lent 16) (refused 10 at 0) 0 (lent 16) ∷
    -- a missing level is met by 4 at what stands in its place, or at the image length; one too many, an unknown one and a longer one
    row (take 11 I ++ drop 16 I) 0 0 (neg 1 ∷ pos 7 ∷ []) 9 (lent 16) (refused 4 at 11) 0 (lent 16) ∷
    row (take 11 I) 0 0 (neg 1 ∷ pos 7 ∷ []) 9 (lent 16) (refused 4 at 11) 0 (lent 16) ∷
    row (take 16 I ++ low ++ drop 16 I) 0 0 (neg 1 ∷ pos 7 ∷ []) 9 (lent 16) (refused 4 at 16) 0 (lent 16) ∷
    row (I ++ low) 0 0 (neg 1 ∷ pos 7 ∷ []) 9 (lent 16) (refused 4 at 23) 0 (lent 16) ∷
    row (set I 15 3) 0 0 (neg 1 ∷ pos 7 ∷ []) 9 (lent 16) (refused 4 at 11) 0 (lent 16) ∷
    row (take 11 I ++ rec kind.LEVEL (0 ∷ 0 ∷ []) ++ drop 16 I) 0 0 (neg 1 ∷ pos 7 ∷ []) 9 (lent 16) (refused 3 at 11) 0 (lent 16) ∷
    -- a CALL goes up; asked after 8, of a caller whose register is a vector
    row (calling 0 1) 0 0 [] 9 (lent 16) (refused 18 at 23) 0 (lent 16) ∷
    row (set (calling 0 1) 10 3) 0 0 [] 9 (lent 16) (refused 8 at 16) 0 (lent 16) ∷
    -- the entry is above the run's level, asked before 12; above 2 a level counts as 2
    row (calling 1 0) 0 0 (pos 9 ∷ []) 9 (lent 15) (refused 19 at 0) 0 (lent 15) ∷
    at_level 1 (calling 1 0) 0 0 [] 9 (lent 16) (integer (pos 7)) 4 (lent 16) ∷
    at_level 256 (calling 2 2) 0 0 [] 9 (lent 16) (integer (pos 7)) 4 (lent 16) ∷
    -- DISPATCH passes over versions above the level of the version it stands in, whatever the run's
    at_level 2 (picking 0 0) 0 0 [] 9 (lent 16) (integer (pos 7)) 4 (lent 16) ∷
    at_level 2 (picking 0 1) 0 0 [] 9 (lent 16) (integer (pos 8)) 4 (lent 16) ∷
    at_level 2 (picking 1 1) 0 0 [] 9 (lent 16) (integer (pos 7)) 4 (lent 16) ∷
    -- also while a lower version forces the block; where all are above, UNDEF
    at_level 1 (forced_below 1 1 0) 0 0 [] 9 (lent 16) (integer (pos 7)) 9 (lent 16) ∷
    at_level 2 (forced_below 1 2 2) 0 0 [] 9 (lent 16) undef 4 (lent 16) ∷
    -- one owned register given as owned and borrowed in one call: 8
    row twice 0 0 (pos 0 ∷ []) 9 (lent 16) (refused 8 at 31) 0 (lent 16) ∷
    -- reading a register that only a forced block assigned: 10
    row assigned_by_force 0 0 [] 9 (lent 16) (refused 10 at 0) 0 (lent 16) ∷
    -- emptying a register after a promise captured it
    row captured 0 0 (pos 0 ∷ []) 9 (lent 16) (refused 10 at 0) 0 (lent 16) ∷
    -- returning kind 0, which could carry a promise out of its frame
    row (set I 8 0) 0 0 (neg 1 ∷ pos 7 ∷ []) 9 (lent 16) (refused 6 at 0) 0 (lent 16) ∷
    []
