-- Types fit when: question 8.
use Rattle.std.specs.Prelude.{List, Bool, cond, not, ◌||◌, ℕ, ◌+◌, get_or, eqb}
use Rattle.std.proofs.Math.ListN.{get_elem?}
use Rattle.layout.specs.Tests.{◌and◌, all, any, count, found}
use Rattle.program.specs.Program.{Argument, Instr, LIT, MOVE, USE, DUP, VEC, LEN, GET, SET, ARITH, SELECT, CAST, NAMED, STORE, PROM, FORCE, PEEK, POKE, CALL, DISPATCH, SKIP}
use Rattle.program.specs.Program.{Block, Version, Program, find_version, given}
use Rattle.rules.specs.Types.{kind_of, is_shared, is_owned, is_borrowed, is_integer, is_vector, is_promise, within}

-- the declared type of a register
abbrev pub type_of : Version → ℕ → ℕ
type_of v r = get_or v.types r 0

-- the declared kind of a register
abbrev pub declared_kind : Version → ℕ → ℕ
declared_kind v r = kind_of (type_of v r)

-- is the register declared shared?
abbrev pub shared : Version → ℕ → Bool
shared v r = is_shared (type_of v r)

-- is the register declared an integer?
abbrev pub integer : Version → ℕ → Bool
integer v r = is_integer (type_of v r)

-- is the register declared a vector, shared, owned or borrowed?
abbrev pub vector : Version → ℕ → Bool
vector v r = is_vector (type_of v r)

-- is the register declared an owned vector?
abbrev pub owned : Version → ℕ → Bool
owned v r = is_vector (type_of v r) and is_owned (type_of v r)

-- is the register declared a promise, of kind 4 or 5?
abbrev pub promise : Version → ℕ → Bool
promise v r = is_promise (type_of v r)

-- STORE and POKE need a shared source within kind 1
abbrev pub value : Version → ℕ → Bool
value v r = shared v r and within (declared_kind v r) 1

-- a plain result needs a shared d whose kind holds it
abbrev pub plain : Version → ℕ → ℕ → Bool
plain v d k = shared v d and within k (declared_kind v d)

-- a fresh vector may enter an owned d, or a shared d whose kind holds it
unfoldable pub fresh : Version → ℕ → Bool
fresh v d = owned v d || plain v d 3

-- PROM gives 4 or 5 by its block's mark
abbrev pub promise_kind : ℕ → ℕ
promise_kind mark = 4 + mark

-- an owned parameter takes an owned register that stands only once in the call, a borrowed one any vector register, a shared one a shared register within its kind
unfoldable pub fits_argument : Version → List Argument → Argument → Bool
fits_argument v call a =
    cond (is_owned a.type) (owned v a.register and eqb (count (λ (b : Argument). eqb b.register a.register) call) 1)
    (cond (is_borrowed a.type) (vector v a.register)
    (shared v a.register and within (declared_kind v a.register) (kind_of a.type)))

-- an emptying call has an owned parameter
abbrev pub empties : List Argument → Bool
empties call = any (λ (a : Argument). is_owned a.type) call

-- what a call returns: an owned return is a fresh vector, a shared one a plain result
unfoldable pub fits_return : Version → ℕ → ℕ → Bool
fits_return v d ret = cond (is_owned ret) (fresh v d) (plain v d (kind_of ret))

-- a call in block n that gives these arguments and returns into d; promise blocks have no emptying call
unfoldable pub fits_call : Version → ℕ → ℕ → List Argument → ℕ → Bool
fits_call v n d call ret = all (fits_argument v call) call and (eqb n 0 || not (empties call)) and fits_return v d ret

-- an instruction in block n of the version v; promise blocks have no USE and no SET
unfoldable pub fits : Program → Version → ℕ → Instr → Bool
fits P v n (LIT d i) = plain v d 2
fits P v n (MOVE d a) = shared v a and plain v d (declared_kind v a)
fits P v n (USE d a) = eqb n 0 and owned v a and fresh v d
fits P v n (DUP d a) = vector v a and fresh v d
fits P v n (VEC d rs) = all (integer v) rs and fresh v d
fits P v n (LEN d a) = vector v a and plain v d 2
fits P v n (GET d a i) = vector v a and integer v i and plain v d 2
fits P v n (SET a i e) = eqb n 0 and owned v a and integer v i and integer v e
fits P v n (ARITH d op a b) = integer v a and integer v b and plain v d 2
fits P v n (SELECT d c a b) = integer v c and integer v a and integer v b and plain v d 2
fits P v n (CAST d a) = shared v a and shared v d
fits P v n (NAMED d x) = plain v d 1
fits P v n (STORE x a) = value v a
fits P v n (PROM d block) = found (get_elem? v.blocks block) (λ b. plain v d (promise_kind b.mark))
fits P v n (FORCE d a) = promise v a and plain v d 2
fits P v n (PEEK d a x) = promise v a and plain v d 1
fits P v n (POKE a x e) = promise v a and value v e
fits P v n (CALL d f w rs) = found (find_version P f w) (λ c. fits_call v n d (given c rs) c.return)
fits P v n (DISPATCH d f mark ret pairs) = fits_call v n d pairs ret
fits P v n (SKIP a k) = integer v a

-- the result register: of the body within the return kind, owned if the return is, else shared or owned; of a promise block an integer
unfoldable pub fits_result : Version → ℕ → Block → Bool
fits_result v n b =
    cond (eqb n 0)
    (within (declared_kind v b.result) (kind_of v.return) and cond (is_owned v.return) (owned v b.result) (not (is_borrowed (type_of v b.result))))
    (integer v b.result)
