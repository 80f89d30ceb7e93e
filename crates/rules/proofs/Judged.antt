-- Types, effects, levels and flow, computed: of each rule an instruction that meets it, and others that miss it by one register. A wrong rule makes a row false.
use mathlib.Core.Path.{◌≡◌, refl}
use mathlib.Core.List.{List, [], ◌∷◌, map}
use mathlib.Core.Option.{Option, none, some, Option-elim}
use mathlib.Core.Bool.{Bool, true, false}
use Prim.Native.Nat.{ℕ}
use lib.IntN.{pos}
use Rattle.layout.specs.Tests.{◌and◌, all, any, count, found}
use Rattle.sets.specs.Sets.{empty, only, both, those}
use Rattle.program.specs.Program.{Argument, Instr, LIT, MOVE, USE, DUP, VEC, LEN, GET, SET, ARITH, SELECT, CAST, NAMED, STORE, PROM, FORCE, PEEK, POKE, CALL, DISPATCH, SKIP, Block, Version, Program, find_version, first_mark, beside}
use Rattle.rules.specs.Types.{kind_of, ownership_of, is_shared, is_owned, is_borrowed, is_integer, is_vector, is_promise, within, parameter_type, register_type, return_type}
use Rattle.rules.specs.Fits.{fresh, fits_argument, fits_return, fits_call, fits, fits_result}
use Rattle.rules.specs.Effects.{reflective}
use Rattle.rules.specs.Questions.{stays_down}
use Rattle.rules.specs.Actions.{Action, emptied, touch, action_of}

-- ---- a program to judge in

block : ℕ → ℕ → Block
block mark result = record { at = 0; mark = mark; result = result; code = [] }

version : ℕ → List ℕ → ℕ → ℕ → List Block → ℕ → Version
version f types return level blocks n = record { at = 0; function = f; version = 0; parameters = n; types = types; return = return; level = level; blocks = blocks }

-- the registers 0 int, 1 vector, 2 own vector, 3 borrow vector, 4 quiet promise, 5 reflective promise, 6 any, 7 value, 8 own vector; blocks 1 quiet and 2 reflective; level 1
caller : Version
caller = version 0 (2 ∷ 3 ∷ 0x13 ∷ 0x23 ∷ 4 ∷ 5 ∷ 0 ∷ 1 ∷ 0x13 ∷ []) 2 1 (block 0 0 ∷ block 0 0 ∷ block 1 0 ∷ []) 4

-- 1.0 takes an own and a borrow vector and is reflective, 2.0 takes a vector, 3.0 gives an own vector, 4.0 is of level 2
P : Program
P =
    caller ∷ version 1 (0x13 ∷ 0x23 ∷ 2 ∷ []) 2 0 (block 1 2 ∷ []) 2 ∷ version 2 (3 ∷ 2 ∷ []) 2 1 (block 0 1 ∷ []) 1 ∷
    version 3 (0x13 ∷ []) 0x13 0 (block 0 0 ∷ []) 0 ∷ version 4 (2 ∷ []) 2 2 (block 0 0 ∷ []) 0 ∷ []

arg : ℕ → ℕ → Argument
arg t r = record { type = t; register = r }

-- ---- within, on kinds 0 to 5; types at a parameter, at another register and at a return

matrix : List (List Bool)
matrix = map (λ (a : ℕ). map (within a) (0 ∷ 1 ∷ 2 ∷ 3 ∷ 4 ∷ 5 ∷ [])) (0 ∷ 1 ∷ 2 ∷ 3 ∷ 4 ∷ 5 ∷ [])

within-is : matrix ≡
    (true ∷ false ∷ false ∷ false ∷ false ∷ false ∷ []) ∷
    (true ∷ true ∷ false ∷ false ∷ false ∷ false ∷ []) ∷
    (true ∷ true ∷ true ∷ false ∷ false ∷ false ∷ []) ∷
    (true ∷ true ∷ false ∷ true ∷ false ∷ false ∷ []) ∷
    (true ∷ false ∷ false ∷ false ∷ true ∷ true ∷ []) ∷
    (true ∷ false ∷ false ∷ false ∷ false ∷ true ∷ []) ∷ []
unfolding matrix within
within-is = refl

-- the bytes 0, 1, 5, 6, 0x12, 0x13, 0x14, 0x23, 0x22, 0x33
bytes : List ℕ
bytes = 0 ∷ 1 ∷ 5 ∷ 6 ∷ 0x12 ∷ 0x13 ∷ 0x14 ∷ 0x23 ∷ 0x22 ∷ 0x33 ∷ []

parameters-are : map parameter_type bytes ≡ true ∷ true ∷ true ∷ false ∷ false ∷ true ∷ false ∷ true ∷ false ∷ false ∷ []
unfolding bytes parameter_type kind_of ownership_of is_shared is_owned is_borrowed is_vector ◌and◌
parameters-are = refl

registers-are : map register_type bytes ≡ true ∷ true ∷ true ∷ false ∷ false ∷ true ∷ false ∷ false ∷ false ∷ false ∷ []
unfolding bytes register_type parameter_type kind_of ownership_of is_shared is_owned is_borrowed is_vector ◌and◌
registers-are = refl

returns-are : map return_type bytes ≡ false ∷ true ∷ false ∷ false ∷ false ∷ true ∷ false ∷ false ∷ false ∷ false ∷ []
unfolding bytes return_type register_type parameter_type kind_of ownership_of is_shared is_owned is_borrowed is_vector ◌and◌
returns-are = refl

-- ---- what fits

-- those that fit, in block 0
fitting : List Instr
fitting =
    LIT 0 (pos 7) ∷ MOVE 7 0 ∷ MOVE 5 4 ∷ USE 8 2 ∷ USE 1 2 ∷ DUP 8 1 ∷ DUP 8 3 ∷ VEC 8 (0 ∷ []) ∷ LEN 0 3 ∷ GET 0 1 0 ∷ SET 2 0 0 ∷ ARITH 0 0 0 0 ∷ SELECT 0 0 0 0 ∷ CAST 0 7 ∷ NAMED 7 0 ∷ STORE 0 0 ∷
    PROM 4 1 ∷ PROM 5 1 ∷ PROM 5 2 ∷ FORCE 0 4 ∷ FORCE 0 5 ∷ PEEK 7 4 0 ∷ POKE 5 0 1 ∷
    CALL 0 1 0 (2 ∷ 3 ∷ []) ∷ CALL 0 1 0 (2 ∷ 8 ∷ []) ∷ CALL 0 2 0 (1 ∷ []) ∷ CALL 8 3 0 [] ∷ CALL 7 3 0 [] ∷
    DISPATCH 0 1 0 2 (arg 0x13 2 ∷ arg 0x23 3 ∷ []) ∷ DISPATCH 8 3 0 0x13 [] ∷ SKIP 0 1 ∷ []

all_fit : all (fits P caller 0) fitting ≡ true
unfolding fitting P caller version block arg fits fresh fits_argument fits_return fits_call within kind_of ownership_of is_shared is_owned is_borrowed is_integer is_vector is_promise ◌and◌ all any count found find_version beside
all_fit = refl

-- those that do not: each differs from one that fits in one register, or in what it is given
unfit : List Instr
unfit =
    LIT 1 (pos 7) ∷ LIT 2 (pos 7) ∷ MOVE 0 7 ∷ MOVE 2 1 ∷ MOVE 1 2 ∷ MOVE 1 3 ∷ USE 8 1 ∷ USE 8 3 ∷ USE 0 2 ∷ USE 3 2 ∷ DUP 8 0 ∷ DUP 3 1 ∷ VEC 8 (1 ∷ []) ∷ VEC 3 (0 ∷ []) ∷ LEN 0 0 ∷ LEN 1 1 ∷
    GET 0 0 0 ∷ GET 0 1 1 ∷ GET 1 1 0 ∷ SET 1 0 0 ∷ SET 3 0 0 ∷ SET 2 1 0 ∷ SET 2 0 1 ∷ ARITH 1 0 0 0 ∷ ARITH 0 0 1 0 ∷ ARITH 0 0 0 1 ∷ SELECT 1 0 0 0 ∷ SELECT 0 1 0 0 ∷ SELECT 0 0 1 0 ∷ SELECT 0 0 0 1 ∷
    CAST 0 2 ∷ CAST 2 7 ∷ NAMED 0 0 ∷ NAMED 2 0 ∷ STORE 0 2 ∷ STORE 0 4 ∷ STORE 0 6 ∷ PROM 0 1 ∷ PROM 4 2 ∷ PROM 4 9 ∷ FORCE 0 0 ∷ FORCE 0 6 ∷ FORCE 1 4 ∷ PEEK 0 4 0 ∷ PEEK 7 0 0 ∷ POKE 0 0 0 ∷ POKE 4 0 2 ∷ POKE 4 0 4 ∷
    CALL 0 1 0 (2 ∷ 2 ∷ []) ∷ CALL 0 1 0 (1 ∷ 3 ∷ []) ∷ CALL 0 1 0 (2 ∷ 0 ∷ []) ∷ CALL 1 1 0 (2 ∷ 3 ∷ []) ∷ CALL 0 2 0 (2 ∷ []) ∷ CALL 0 2 0 (3 ∷ []) ∷ CALL 0 2 0 (7 ∷ []) ∷ CALL 3 3 0 [] ∷ CALL 0 9 0 [] ∷
    DISPATCH 0 1 0 2 (arg 0x13 2 ∷ arg 0x23 2 ∷ []) ∷ DISPATCH 0 1 0 2 (arg 3 2 ∷ []) ∷ DISPATCH 0 1 0 0x13 [] ∷ SKIP 1 1 ∷ []

none-fits : any (fits P caller 0) unfit ≡ false
unfolding unfit P caller version block arg fits fresh fits_argument fits_return fits_call within kind_of ownership_of is_shared is_owned is_borrowed is_integer is_vector is_promise ◌and◌ all any count found find_version beside
none-fits = refl

-- promise blocks have no USE, no SET and no emptying call
none-in-promises : any (fits P caller 1) (USE 8 2 ∷ SET 2 0 0 ∷ CALL 0 1 0 (2 ∷ 3 ∷ []) ∷ DISPATCH 0 1 0 2 (arg 0x13 2 ∷ []) ∷ []) ≡ false
unfolding P caller version block arg fits fresh fits_argument fits_return fits_call within kind_of ownership_of is_shared is_owned is_borrowed is_integer is_vector is_promise ◌and◌ all any count found find_version beside
none-in-promises = refl

-- the result register: of a body within the return kind and not borrowed, of a promise block an integer
results-are : map (λ (r : ℕ). fits_result caller 0 (block 0 r)) (0 ∷ 1 ∷ 7 ∷ []) ≡ true ∷ false ∷ false ∷ []
unfolding P caller version block fits_result within kind_of ownership_of is_owned is_borrowed is_integer ◌and◌
results-are = refl

-- ... of a version that returns a vector: a shared or owned one, and none that is lent
lent-results : map (λ (r : ℕ). fits_result (version 0 (3 ∷ 0x13 ∷ 0x23 ∷ []) 3 0 [] 3) 0 (block 0 r)) (0 ∷ 1 ∷ 2 ∷ []) ≡ true ∷ true ∷ false ∷ []
unfolding version block fits_result within kind_of ownership_of is_owned is_borrowed is_integer ◌and◌
lent-results = refl

-- ... or an owned one
owned-results : map (λ (r : ℕ). fits_result (version 0 (3 ∷ 0x13 ∷ 0x23 ∷ []) 0x13 0 [] 3) 0 (block 0 r)) (0 ∷ 1 ∷ 2 ∷ []) ≡ false ∷ true ∷ false ∷ []
unfolding version block fits_result within kind_of ownership_of is_owned is_borrowed is_integer is_vector ◌and◌
owned-results = refl

promise-results : map (λ (r : ℕ). fits_result caller 1 (block 0 r)) (0 ∷ 1 ∷ 7 ∷ []) ≡ true ∷ false ∷ false ∷ []
unfolding P caller version block fits_result within kind_of ownership_of is_owned is_borrowed is_integer ◌and◌
promise-results = refl

-- ---- effects and levels

-- FORCE of kind 5, PEEK, POKE, CALL of a reflective version, a reflective DISPATCH mark
all-reflective : all (reflective P caller) (FORCE 0 5 ∷ PEEK 7 4 0 ∷ POKE 4 0 0 ∷ CALL 0 1 0 (2 ∷ 3 ∷ []) ∷ DISPATCH 0 2 1 2 [] ∷ []) ≡ true
unfolding P caller version block reflective kind_of found find_version first_mark all ◌and◌
all-reflective = refl

-- FORCE of kind 4, CALL of a quiet version, a quiet DISPATCH mark; PROM itself is quiet
none-reflective : any (reflective P caller) (FORCE 0 4 ∷ CALL 0 2 0 (1 ∷ []) ∷ DISPATCH 0 1 0 2 [] ∷ PROM 5 2 ∷ SKIP 0 1 ∷ []) ≡ false
unfolding P caller version block reflective kind_of found find_version first_mark any ◌and◌
none-reflective = refl

-- 18: a CALL goes down or across, and not up; DISPATCH is not asked
calls-go-down : map (stays_down P caller) (CALL 0 1 0 (2 ∷ 3 ∷ []) ∷ CALL 0 2 0 (1 ∷ []) ∷ CALL 0 4 0 [] ∷ DISPATCH 0 4 0 2 [] ∷ []) ≡ true ∷ true ∷ false ∷ true ∷ []
unfolding P caller version block stays_down found find_version ◌and◌
calls-go-down = refl

-- ---- what an instruction reads, empties and assigns, each register by another number

act : Instr → Option Action
act i = action_of (λ b. none) (touch P i)

does : List ℕ → List ℕ → List ℕ → Option Action
does rs us ds = some (record { R = those 16 rs; W = those 16 ds; U = those 16 us; C = empty 16 })

touched :
    map act (
    LIT 9 (pos 7) ∷ MOVE 9 1 ∷ USE 9 1 ∷ DUP 9 1 ∷ VEC 9 (1 ∷ 2 ∷ 3 ∷ []) ∷ LEN 9 1 ∷ GET 9 1 2 ∷ SET 1 2 3 ∷ ARITH 9 0 1 2 ∷ SELECT 9 1 2 3 ∷ CAST 9 1 ∷ NAMED 9 1 ∷ STORE 1 2 ∷
    FORCE 9 1 ∷ PEEK 9 1 2 ∷ POKE 1 2 3 ∷ CALL 9 1 0 (5 ∷ 6 ∷ []) ∷ DISPATCH 9 1 0 2 (arg 0x23 5 ∷ arg 0x13 6 ∷ arg 3 7 ∷ []) ∷ SKIP 1 2 ∷ [])
    ≡ does [] [] (9 ∷ []) ∷ does (1 ∷ []) [] (9 ∷ []) ∷ does (1 ∷ []) (1 ∷ []) (9 ∷ []) ∷ does (1 ∷ []) [] (9 ∷ []) ∷ does (1 ∷ 2 ∷ 3 ∷ []) [] (9 ∷ []) ∷ does (1 ∷ []) [] (9 ∷ []) ∷ does (1 ∷ 2 ∷ []) [] (9 ∷ []) ∷
    does (1 ∷ 2 ∷ 3 ∷ []) [] (1 ∷ []) ∷ does (1 ∷ 2 ∷ []) [] (9 ∷ []) ∷ does (1 ∷ 2 ∷ 3 ∷ []) [] (9 ∷ []) ∷ does (1 ∷ []) [] (9 ∷ []) ∷ does [] [] (9 ∷ []) ∷ does (2 ∷ []) [] [] ∷
    does (1 ∷ []) [] (9 ∷ []) ∷ does (1 ∷ []) [] (9 ∷ []) ∷ does (1 ∷ 3 ∷ []) [] [] ∷ does (5 ∷ 6 ∷ []) (5 ∷ []) (9 ∷ []) ∷ does (5 ∷ 6 ∷ 7 ∷ []) (6 ∷ []) (9 ∷ []) ∷ does (1 ∷ []) [] [] ∷ []
unfolding act does P caller version block arg touch action_of emptied is_owned ownership_of found find_version beside ◌and◌ Option-elim those only both empty
touched = refl
