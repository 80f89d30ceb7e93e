-- 02, 13: programs and frames with their functions renumbered: each function is raised by k, each offset by o.
use Rattle.std.specs.Prelude.{map, ℕ, ◌+◌}
use Rattle.program.specs.Program.{Instr, LIT, MOVE, USE, DUP, VEC, LEN, GET, SET, ARITH, SELECT, CAST, NAMED, STORE, PROM, FORCE, PEEK, POKE, CALL, DISPATCH, SKIP, Line, Block, Version, Program}
use Rattle.machine.specs.declared.Frame.{Frame}

-- CALL and DISPATCH alone name functions
unfoldable pub shift_instr : ℕ → Instr → Instr
shift_instr k (LIT d i) = LIT d i
shift_instr k (MOVE d a) = MOVE d a
shift_instr k (USE d a) = USE d a
shift_instr k (DUP d a) = DUP d a
shift_instr k (VEC d rs) = VEC d rs
shift_instr k (LEN d a) = LEN d a
shift_instr k (GET d a i) = GET d a i
shift_instr k (SET a i e) = SET a i e
shift_instr k (ARITH d op a b) = ARITH d op a b
shift_instr k (SELECT d c a b) = SELECT d c a b
shift_instr k (CAST d a) = CAST d a
shift_instr k (NAMED d x) = NAMED d x
shift_instr k (STORE x a) = STORE x a
shift_instr k (PROM d block) = PROM d block
shift_instr k (FORCE d a) = FORCE d a
shift_instr k (PEEK d a x) = PEEK d a x
shift_instr k (POKE a x e) = POKE a x e
shift_instr k (CALL d f w rs) = CALL d (k + f) w rs
shift_instr k (DISPATCH d f mark ret pairs) = DISPATCH d (k + f) mark ret pairs
shift_instr k (SKIP a m) = SKIP a m

abbrev pub shift_line : ℕ → ℕ → Line → Line
shift_line k o l = record { at = o + l.at; does = shift_instr k l.does }

abbrev pub shift_block : ℕ → ℕ → Block → Block
shift_block k o b = record { at = o + b.at; mark = b.mark; result = b.result; code = map (shift_line k o) b.code }

abbrev pub shift_version : ℕ → ℕ → Version → Version
shift_version k o v = record {
  at = o + v.at;
  function = k + v.function;
  version = v.version;
  parameters = v.parameters;
  types = v.types;
  return = v.return;
  level = v.level;
  blocks = map (shift_block k o) v.blocks;
}

abbrev pub shift_program : ℕ → ℕ → Program → Program
shift_program k o P = map (shift_version k o) P

-- the frame of a call, under the new number of its function
abbrev pub shift_frame : ℕ → Frame → Frame
shift_frame k f = record { function = k + f.function; version = f.version; registers = f.registers; names = f.names }
