-- The arrays of a run before its first step: blank ones, and what is set in them.
use Rattle.std.specs.Prelude.{List, [], ◌∷◌, cond, ℕ, suc, ◌+◌, ◌*◌, ℤ, pos, length, replicate, set, take, ltb}
use Rattle.std.proofs.lemmas.List.Edits.{sets}
use Rattle.layout.specs.Bounds.{REGISTERS}
use Rattle.machine.specs.States.{ITEMS, VECTORS}
use Rattle.machine.specs.Begin.{Given, integer, vector}
use Rattle.store.specs.Store.{CALLS, DEPTH, ITEM, LENGTHS, PLACES}

-- ---- an argument

-- an integer in the register i of the first frame, where it has one: the tag, and the number
unfoldable pub integer_bytes : ℕ → List ℕ → List ℕ
integer_bytes i b = cond (ltb i REGISTERS) (set b i 1) b

unfoldable pub integer_numbers : ℕ → ℤ → List ℤ → List ℤ
integer_numbers i z n = cond (ltb i REGISTERS) (set n i z) n

-- the vector c in the register i: the tag and the place
unfoldable pub vector_bytes : ℕ → ℕ → List ℕ → List ℕ
vector_bytes i c b = cond (ltb i REGISTERS) (set (set b i 2) (PLACES + i) c) b

-- the vector c, where the state has one: its length, and its items
unfoldable pub length_bytes : ℕ → ℕ → List ℕ → List ℕ
length_bytes c m b = cond (ltb c VECTORS) (set b (LENGTHS + c) m) b

unfoldable pub item_numbers : ℕ → List ℤ → List ℤ → List ℤ
item_numbers c ys n = cond (ltb c VECTORS) (sets n (ITEM + 16 * c) (take ITEMS ys)) n

-- ---- all of them

-- these arguments in the registers from i on and the vectors from c on
unfoldable pub bytes_with : List Given → ℕ → ℕ → List ℕ → List ℕ
bytes_with [] i c b = b
bytes_with (integer z ∷ xs) i c b = bytes_with xs (suc i) c (integer_bytes i b)
bytes_with (vector ys ∷ xs) i c b = bytes_with xs (suc i) (suc c) (length_bytes c (length ys) (vector_bytes i c b))

unfoldable pub numbers_with : List Given → ℕ → ℕ → List ℤ → List ℤ
numbers_with [] i c n = n
numbers_with (integer z ∷ xs) i c n = numbers_with xs (suc i) c (integer_numbers i z n)
numbers_with (vector ys ∷ xs) i c n = numbers_with xs (suc i) (suc c) (item_numbers c ys n)

-- ---- the arrays

-- nothing is set
unfoldable pub blank_bytes : List ℕ
blank_bytes = replicate 2632 0

unfoldable pub blank_numbers : List ℤ
blank_numbers = replicate 2129 (pos 0)

-- one live call, of the version w of the function f, and its activation
unfoldable pub open_bytes : ℕ → ℕ → List ℕ → List ℕ
open_bytes f w b = set (set (set (set b 24 f) 25 w) CALLS 1) DEPTH 1

-- a run of the version w of the function f with these arguments, before its first step
unfoldable pub first_bytes : ℕ → ℕ → List Given → List ℕ
first_bytes f w xs = bytes_with xs 0 0 (open_bytes f w blank_bytes)

unfoldable pub first_numbers : List Given → List ℤ
first_numbers xs = numbers_with xs 0 0 blank_numbers
