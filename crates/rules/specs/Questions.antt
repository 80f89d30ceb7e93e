-- Questions 6, 8, 18 and 9: the type bytes, whether types fit, levels, and effects.
use Rattle.std.specs.Prelude.{Bool, true, cond, ℕ, leb, ltb}
use Rattle.layout.specs.Tests.{◌and◌, all, all_from, found}
use Rattle.program.specs.Program.{Argument, Instr, LIT, MOVE, USE, DUP, VEC, LEN, GET, SET, ARITH, SELECT, CAST, NAMED, STORE, PROM, FORCE, PEEK, POKE, CALL, DISPATCH, SKIP}
use Rattle.program.specs.Program.{Version, Program, find_version}
use Rattle.program.specs.Search.{Question, free}
use Rattle.rules.specs.Types.{parameter_type, register_type, return_type}
use Rattle.rules.specs.Fits.{fits, fits_result}
use Rattle.rules.specs.Effects.{covered}

-- may register r of a version with so many parameters have the type t?
unfoldable pub type_allowed : ℕ → ℕ → ℕ → Bool
type_allowed parameters r t = cond (ltb r parameters) (parameter_type t) (register_type t)

-- 6: is each type byte of a VERSION allowed at its place?
unfoldable pub version_types : Version → Bool
version_types v = all_from (type_allowed v.parameters) 0 v.types and return_type v.return

-- 6: is each type byte of an instruction allowed at its place? DISPATCH alone has some
unfoldable pub types_allowed : Instr → Bool
types_allowed (LIT d i) = true
types_allowed (MOVE d a) = true
types_allowed (USE d a) = true
types_allowed (DUP d a) = true
types_allowed (VEC d rs) = true
types_allowed (LEN d a) = true
types_allowed (GET d a i) = true
types_allowed (SET a i e) = true
types_allowed (ARITH d op a b) = true
types_allowed (SELECT d c a b) = true
types_allowed (CAST d a) = true
types_allowed (NAMED d x) = true
types_allowed (STORE x a) = true
types_allowed (PROM d block) = true
types_allowed (FORCE d a) = true
types_allowed (PEEK d a x) = true
types_allowed (POKE a x e) = true
types_allowed (CALL d f w rs) = true
types_allowed (DISPATCH d f mark ret pairs) = return_type ret and all (λ (a : Argument). parameter_type a.type) pairs
types_allowed (SKIP a k) = true

-- 6, as a question to the program
abbrev pub question6 : Question
question6 = record { of_version = version_types; of_block = free; of_instr = λ v n i. types_allowed i }

-- 8: do types fit? A wrong result register fails at its BLOCK
abbrev pub question8 : Program → Question
question8 P = record { of_version = λ v. true; of_block = fits_result; of_instr = fits P }

-- 02, 7: 18: does a version CALL only versions of its level or lower?
unfoldable pub stays_down : Program → Version → Instr → Bool
stays_down P v (LIT d i) = true
stays_down P v (MOVE d a) = true
stays_down P v (USE d a) = true
stays_down P v (DUP d a) = true
stays_down P v (VEC d rs) = true
stays_down P v (LEN d a) = true
stays_down P v (GET d a i) = true
stays_down P v (SET a i e) = true
stays_down P v (ARITH d op a b) = true
stays_down P v (SELECT d c a b) = true
stays_down P v (CAST d a) = true
stays_down P v (NAMED d x) = true
stays_down P v (STORE x a) = true
stays_down P v (PROM d block) = true
stays_down P v (FORCE d a) = true
stays_down P v (PEEK d a x) = true
stays_down P v (POKE a x e) = true
stays_down P v (CALL d f w rs) = found (find_version P f w) (λ c. leb c.level v.level)
stays_down P v (DISPATCH d f mark ret pairs) = true
stays_down P v (SKIP a n) = true

-- 18, as a question to the program, asked after 8 (at the CALL)
abbrev pub question18 : Program → Question
question18 P = record { of_version = λ v. true; of_block = free; of_instr = λ v n i. stays_down P v i }

-- 9: does each block's mark cover its effect? (at the BLOCK)
abbrev pub question9 : Program → Question
question9 P = record { of_version = λ v. true; of_block = λ v n b. covered P v b; of_instr = free }
