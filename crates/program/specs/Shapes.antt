-- The decoded form of an instruction: its fields, and for a list of operands its length; the operands stay in the image.
use Rattle.std.specs.Prelude.{List, [], map, ℕ, length}
use Rattle.program.specs.Program.{Argument, Instr, LIT, MOVE, USE, DUP, VEC, LEN, GET, SET, ARITH, SELECT, CAST, NAMED, STORE, PROM, FORCE, PEEK, POKE, CALL, DISPATCH, SKIP}
use Rattle.program.specs.declared.Instruction.{Instruction}

-- the decoded form of an instruction
unfoldable pub shape_of : Instr → Instruction
shape_of (LIT d i) = Instruction.Lit d i
shape_of (MOVE d a) = Instruction.Move d a
shape_of (USE d a) = Instruction.Use d a
shape_of (DUP d a) = Instruction.Dup d a
shape_of (VEC d rs) = Instruction.Vec d (length rs)
shape_of (LEN d a) = Instruction.Len d a
shape_of (GET d a i) = Instruction.Get d a i
shape_of (SET a i e) = Instruction.Set a i e
shape_of (ARITH d op a b) = Instruction.Arith d op a b
shape_of (SELECT d c a b) = Instruction.Select d c a b
shape_of (CAST d a) = Instruction.Cast d a
shape_of (NAMED d x) = Instruction.Named d x
shape_of (STORE x a) = Instruction.Store x a
shape_of (PROM d block) = Instruction.Prom d block
shape_of (FORCE d a) = Instruction.Force d a
shape_of (PEEK d a x) = Instruction.Peek d a x
shape_of (POKE a x e) = Instruction.Poke a x e
shape_of (CALL d f w rs) = Instruction.Call d f w (length rs)
shape_of (DISPATCH d f mark ret pairs) = Instruction.Dispatch d f mark ret (length pairs)
shape_of (SKIP a n) = Instruction.Skip a n

-- the registers that VEC, CALL and DISPATCH list
unfoldable pub listed_registers : Instr → List ℕ
listed_registers (LIT d i) = []
listed_registers (MOVE d a) = []
listed_registers (USE d a) = []
listed_registers (DUP d a) = []
listed_registers (VEC d rs) = rs
listed_registers (LEN d a) = []
listed_registers (GET d a i) = []
listed_registers (SET a i e) = []
listed_registers (ARITH d op a b) = []
listed_registers (SELECT d c a b) = []
listed_registers (CAST d a) = []
listed_registers (NAMED d x) = []
listed_registers (STORE x a) = []
listed_registers (PROM d block) = []
listed_registers (FORCE d a) = []
listed_registers (PEEK d a x) = []
listed_registers (POKE a x e) = []
listed_registers (CALL d f w rs) = rs
listed_registers (DISPATCH d f mark ret pairs) = map (λ (a : Argument). a.register) pairs
listed_registers (SKIP a n) = []

-- the types that DISPATCH lists beside them
unfoldable pub listed_types : Instr → List ℕ
listed_types (LIT d i) = []
listed_types (MOVE d a) = []
listed_types (USE d a) = []
listed_types (DUP d a) = []
listed_types (VEC d rs) = []
listed_types (LEN d a) = []
listed_types (GET d a i) = []
listed_types (SET a i e) = []
listed_types (ARITH d op a b) = []
listed_types (SELECT d c a b) = []
listed_types (CAST d a) = []
listed_types (NAMED d x) = []
listed_types (STORE x a) = []
listed_types (PROM d block) = []
listed_types (FORCE d a) = []
listed_types (PEEK d a x) = []
listed_types (POKE a x e) = []
listed_types (CALL d f w rs) = []
listed_types (DISPATCH d f mark ret pairs) = map (λ (a : Argument). a.type) pairs
listed_types (SKIP a n) = []
