-- 02, 5: rows at the ends of both ranges, products of each sign that just fit or just do not, literals and words of 64 bits.
use Rattle.std.specs.Prelude.{◌≡◌, List, [], ◌∷◌, ◌++◌, ℕ, ℤ, pos}
use Rattle.layout.specs.Kinds as kind
use Rattle.layout.specs.Records.{records}
use Rattle.layout.specs.Forms.{moved}
use Rattle.layout.specs.declared.Form.{Form}
use Rattle.cases.specs.Table.{Row, row, neg, lent_from, lent, refused◌at◌, integer, vector, undef, rec, lit, low, I, computing}
use Rattle.cases.specs.Further.{emptying}

-- the greatest and the least integer's size
abbrev pub GREATEST : ℕ
GREATEST = 9223372036854775807

abbrev pub LEAST : ℕ
LEAST = 9223372036854775808

-- a body that gives the literal that this record assigns to the register 0
abbrev pub giving : List ℕ → List ℕ
giving literal =
    rec kind.VERSION (0 ∷ 0 ∷ 0 ∷ 1 ∷ 2 ∷ 1 ∷ 2 ∷ []) ++
    low ++
    rec kind.BLOCK (0 ∷ 0 ∷ 1 ∷ []) ++
    literal

-- op of x and y gives z
abbrev pub computed : ℕ → ℤ → ℤ → ℤ → Row
computed op x y z = row (computing op) 0 0 (neg 1 ∷ x ∷ neg 1 ∷ y ∷ []) 9 (lent 16) (integer z) 2 (lent 16)

-- op of x and y is UNDEF
abbrev pub undefined : ℕ → ℤ → ℤ → Row
undefined op x y = row (computing op) 0 0 (neg 1 ∷ x ∷ neg 1 ∷ y ∷ []) 9 (lent 16) undef 1 (lent 16)

-- ---- the table

-- rows for 02, 5
unfoldable pub sixty_four : List Row
sixty_four =
    -- past the ends of the old range
    computed 0 (pos 2147483647) (pos 1) (pos 2147483648) ∷
    computed 1 (neg 2147483648) (pos 1) (neg 2147483649) ∷
    computed 2 (pos 65536) (pos 65536) (pos 4294967296) ∷
    computed 3 (neg 2147483648) (neg 1) (pos 2147483648) ∷
    -- at the ends of the new one: add and subtract
    computed 0 (pos 9223372036854775806) (pos 1) (pos GREATEST) ∷
    undefined 0 (pos GREATEST) (pos 1) ∷
    computed 0 (neg 9223372036854775807) (neg 1) (neg LEAST) ∷
    undefined 0 (neg LEAST) (neg 1) ∷
    computed 0 (neg LEAST) (pos GREATEST) (neg 1) ∷
    computed 1 (neg 9223372036854775807) (pos 1) (neg LEAST) ∷
    undefined 1 (neg LEAST) (pos 1) ∷
    computed 1 (neg 1) (neg LEAST) (pos GREATEST) ∷
    undefined 1 (pos 0) (neg LEAST) ∷
    -- products that just fit, of each sign
    computed 2 (pos 3037000499) (pos 3037000499) (pos 9223372030926249001) ∷
    computed 2 (neg 3037000499) (neg 3037000499) (pos 9223372030926249001) ∷
    computed 2 (pos 3037000499) (neg 3037000500) (neg 9223372033963249500) ∷
    computed 2 (neg 1317624576693539401) (neg 7) (pos GREATEST) ∷
    computed 2 (pos 4294967296) (neg 2147483648) (neg LEAST) ∷
    computed 2 (neg 4294967296) (pos 2147483648) (neg LEAST) ∷
    -- products that just do not
    undefined 2 (pos 3037000500) (pos 3037000500) ∷
    undefined 2 (neg 3037000500) (neg 3037000500) ∷
    undefined 2 (pos 3037000500) (neg 3037000500) ∷
    undefined 2 (pos 4294967296) (pos 2147483648) ∷
    undefined 2 (neg 4294967296) (neg 2147483648) ∷
    undefined 2 (neg 3) (pos 3074457345618258603) ∷
    -- one that is 0 in 64 bits
    undefined 2 (pos 4294967296) (pos 4294967296) ∷
    -- the least times −1, both ways, times 1, and by −1
    undefined 2 (neg LEAST) (neg 1) ∷
    undefined 2 (neg 1) (neg LEAST) ∷
    computed 2 (neg LEAST) (pos 1) (neg LEAST) ∷
    undefined 3 (neg LEAST) (neg 1) ∷
    computed 3 (neg LEAST) (pos 2) (neg 4611686018427387904) ∷
    computed 4 (neg LEAST) (pos GREATEST) (pos 1) ∷
    -- a literal's eight bytes
    row (giving (rec kind.LIT (0 ∷ 0 ∷ 0 ∷ 0 ∷ 0 ∷ 1 ∷ 0 ∷ 0 ∷ 0 ∷ []))) 0 0 [] 9 (lent 16) (integer (pos 4294967296)) 2 (lent 16) ∷
    row (giving (rec kind.LIT (0 ∷ 0xFF ∷ 0xFF ∷ 0xFF ∷ 0xFF ∷ 0xFF ∷ 0xFF ∷ 0xFF ∷ 0x7F ∷ []))) 0 0 [] 9 (lent 16) (integer (pos GREATEST)) 2 (lent 16) ∷
    row (giving (rec kind.LIT (0 ∷ 0 ∷ 0 ∷ 0 ∷ 0 ∷ 0 ∷ 0 ∷ 0 ∷ 0x80 ∷ []))) 0 0 [] 9 (lent 16) (integer (neg LEAST)) 2 (lent 16) ∷
    -- 3: kind 16 is not known, in either length; kind 36 with a number of four bytes
    row (giving (rec kind.NARROW-LIT (0 ∷ 5 ∷ 0 ∷ 0 ∷ 0 ∷ []))) 0 0 [] 9 (lent 16) (refused 3 at 23) 0 (lent 16) ∷
    row (giving (rec kind.NARROW-LIT (0 ∷ 5 ∷ 0 ∷ 0 ∷ 0 ∷ 0 ∷ 0 ∷ 0 ∷ 0 ∷ []))) 0 0 [] 9 (lent 16) (refused 3 at 23) 0 (lent 16) ∷
    row (giving (rec kind.LIT (0 ∷ 5 ∷ 0 ∷ 0 ∷ 0 ∷ []))) 0 0 [] 9 (lent 16) (refused 3 at 23) 0 (lent 16) ∷
    -- words and items beyond 32 bits; 12: a head word of 2^32
    row I 0 0 (neg 1 ∷ neg 1099511627776 ∷ []) 9 (lent 16) (integer (neg 1099511627776)) 1 (lent 16) ∷
    row emptying 0 0 (pos 1 ∷ pos 1099511627776 ∷ []) 9 (lent 16) (vector 1) 3 (pos 1099511627776 ∷ lent_from 1 15) ∷
    row I 0 0 (pos 4294967296 ∷ pos 7 ∷ []) 9 (lent 16) (refused 12 at 0) 0 (lent 16) ∷
    []

-- ---- an image in both forms

-- the literal −3 of 32 bits, with each further byte its sign
unfoldable pub MovesBelow : Type 0
MovesBelow = moved Form.Narrow (records (giving (rec kind.NARROW-LIT (0 ∷ 0xFD ∷ 0xFF ∷ 0xFF ∷ 0xFF ∷ [])))) ≡ giving (rec kind.LIT (0 ∷ 0xFD ∷ 0xFF ∷ 0xFF ∷ 0xFF ∷ 0xFF ∷ 0xFF ∷ 0xFF ∷ 0xFF ∷ []))

-- and 5
unfoldable pub MovesAbove : Type 0
MovesAbove = moved Form.Narrow (records (giving (rec kind.NARROW-LIT (0 ∷ 5 ∷ 0 ∷ 0 ∷ 0 ∷ [])))) ≡ giving (lit 0 5)
