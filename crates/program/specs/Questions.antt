-- Question 7: what must exist.
use Rattle.std.specs.Prelude.{List, [], ◌∷◌, Bool, true, false, ◌||◌, ℕ, ◌+◌, length, ltb, eqb}
use Rattle.layout.specs.Bounds.{NAMES}
use Rattle.layout.specs.Tests.{◌and◌, all, count, found}
use Rattle.program.specs.Program.{Argument, Instr, LIT, MOVE, USE, DUP, VEC, LEN, GET, SET, ARITH, SELECT, CAST, NAMED, STORE, PROM, FORCE, PEEK, POKE, CALL, DISPATCH, SKIP}
use Rattle.program.specs.Program.{Line, Block, Version, Program, find_version, has_function}
use Rattle.program.specs.Search.{Question}

-- does the register exist in the version?
abbrev pub register_exists : Version → ℕ → Bool
register_exists v r = ltb r (length v.types)

-- does the name exist?
abbrev pub name_exists : ℕ → Bool
name_exists x = ltb x NAMES

-- 7: do registers, names, functions, called versions and PROM's block exist, is CALL's n the version's parameter count, is PROM's block above its own, the block n?
unfoldable pub exists : Program → Version → ℕ → Instr → Bool
exists P v n (LIT d i) = register_exists v d
exists P v n (MOVE d a) = register_exists v d and register_exists v a
exists P v n (USE d a) = register_exists v d and register_exists v a
exists P v n (DUP d a) = register_exists v d and register_exists v a
exists P v n (VEC d rs) = register_exists v d and all (register_exists v) rs
exists P v n (LEN d a) = register_exists v d and register_exists v a
exists P v n (GET d a i) = register_exists v d and register_exists v a and register_exists v i
exists P v n (SET a i e) = register_exists v a and register_exists v i and register_exists v e
exists P v n (ARITH d op a b) = register_exists v d and register_exists v a and register_exists v b
exists P v n (SELECT d c a b) = register_exists v d and register_exists v c and register_exists v a and register_exists v b
exists P v n (CAST d a) = register_exists v d and register_exists v a
exists P v n (NAMED d x) = register_exists v d and name_exists x
exists P v n (STORE x a) = name_exists x and register_exists v a
exists P v n (PROM d block) = register_exists v d and ltb n block and ltb block (length v.blocks)
exists P v n (FORCE d a) = register_exists v d and register_exists v a
exists P v n (PEEK d a x) = register_exists v d and register_exists v a and name_exists x
exists P v n (POKE a x e) = register_exists v a and name_exists x and register_exists v e
exists P v n (CALL d f w rs) = register_exists v d and all (register_exists v) rs and found (find_version P f w) (λ c. eqb (length rs) c.parameters)
exists P v n (DISPATCH d f mark ret pairs) = register_exists v d and all (λ (a : Argument). register_exists v a.register) pairs and has_function f P
exists P v n (SKIP a k) = register_exists v a

-- is it a PROM that names the block n?
unfoldable pub names_block : ℕ → Instr → Bool
names_block n (LIT d i) = false
names_block n (MOVE d a) = false
names_block n (USE d a) = false
names_block n (DUP d a) = false
names_block n (VEC d rs) = false
names_block n (LEN d a) = false
names_block n (GET d a i) = false
names_block n (SET a i e) = false
names_block n (ARITH d op a b) = false
names_block n (SELECT d c a b) = false
names_block n (CAST d a) = false
names_block n (NAMED d x) = false
names_block n (STORE x a) = false
names_block n (PROM d block) = eqb block n
names_block n (FORCE d a) = false
names_block n (PEEK d a x) = false
names_block n (POKE a x e) = false
names_block n (CALL d f w rs) = false
names_block n (DISPATCH d f mark ret pairs) = false
names_block n (SKIP a k) = false

-- how many PROMs of these blocks name the block n
unfoldable pub namings : ℕ → List Block → ℕ
namings n [] = 0
namings n (b ∷ bs) = count (λ (l : Line). names_block n l.does) b.code + namings n bs

-- does a BLOCK's result register exist, and is every block but 0 named by exactly one PROM in its version?
unfoldable pub block_named : Version → ℕ → Block → Bool
block_named v n b = register_exists v b.result and (eqb n 0 || eqb (namings n v.blocks) 1)

-- 7, as a question to the program
abbrev pub question7 : Program → Question
question7 P = record { of_version = λ v. true; of_block = block_named; of_instr = exists P }
