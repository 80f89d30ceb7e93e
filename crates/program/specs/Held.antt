-- What a question that found nothing to refuse says of a version, and the bounds of question 4 as such a question.
use Rattle.std.specs.Prelude.{◌≡◌, Bool, true, ℕ, length, leb, ltb}
use Rattle.std.proofs.Math.Option.{some}
use Rattle.std.proofs.Math.ListN.{get_elem?}
use Rattle.layout.specs.Bounds.{FUNCTIONS, VERSIONS, LEVELS, REGISTERS, PARAMETERS, BLOCKS, INSTRUCTIONS, OPERANDS, MARKS, OPERATIONS}
use Rattle.layout.specs.Tests.{◌and◌}
use Rattle.program.specs.Program.{Instr, LIT, MOVE, USE, DUP, VEC, LEN, GET, SET, ARITH, SELECT, CAST, NAMED, STORE, PROM, FORCE, PEEK, POKE, CALL, DISPATCH, SKIP, Line, Block, Version}
use Rattle.program.specs.Search.{Question}

-- the bounds of a version: its level, its numbers, and how many parameters, registers and blocks it has
unfoldable pub version_bounded : Version → Bool
version_bounded v =
    ltb v.level LEVELS
    and ltb v.function FUNCTIONS and ltb v.version VERSIONS and leb v.parameters PARAMETERS and leb v.parameters (length v.types)
    and ltb 0 (length v.types) and leb (length v.types) REGISTERS and ltb 0 (length v.blocks) and leb (length v.blocks) BLOCKS

-- of a block: its mark, and how many instructions
unfoldable pub block_bounded : Block → Bool
block_bounded b = ltb b.mark MARKS and leb (length b.code) INSTRUCTIONS

-- of an instruction: its operation, its mark, and how many operands
unfoldable pub instr_bounded : Instr → Bool
instr_bounded (LIT d i) = true
instr_bounded (MOVE d a) = true
instr_bounded (USE d a) = true
instr_bounded (DUP d a) = true
instr_bounded (VEC d rs) = leb (length rs) OPERANDS
instr_bounded (LEN d a) = true
instr_bounded (GET d a i) = true
instr_bounded (SET a i e) = true
instr_bounded (ARITH d op a b) = ltb op OPERATIONS
instr_bounded (SELECT d c a b) = true
instr_bounded (CAST d a) = true
instr_bounded (NAMED d x) = true
instr_bounded (STORE x a) = true
instr_bounded (PROM d block) = true
instr_bounded (FORCE d a) = true
instr_bounded (PEEK d a x) = true
instr_bounded (POKE a x e) = true
instr_bounded (CALL d f w rs) = leb (length rs) OPERANDS
instr_bounded (DISPATCH d f mark ret pairs) = ltb mark MARKS and leb (length pairs) OPERANDS
instr_bounded (SKIP a n) = true

-- what question 4 asks of them, as a question to the program
abbrev pub bounds : Question
bounds = record { of_version = version_bounded; of_block = λ v n b. block_bounded b; of_instr = λ v n i. instr_bounded i }

-- what a question found of a version, of its blocks and of their instructions
pub record Held (q : Question) (v : Version) : Type 0 where
  pub of_version : q.of_version v ≡ true
  pub of_block : (n : ℕ) (b : Block) → get_elem? v.blocks n ≡ some b → q.of_block v n b ≡ true
  pub of_instr : (n : ℕ) (b : Block) (i : ℕ) (l : Line) → get_elem? v.blocks n ≡ some b → get_elem? b.code i ≡ some l → q.of_instr v n l.does ≡ true
