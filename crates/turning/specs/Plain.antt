-- Instructions that look at no activation: all but FORCE, CALL, DISPATCH and SKIP.
use Rattle.std.specs.Prelude.{Bool, true, false}
use Rattle.program.specs.Program.{Instr, LIT, MOVE, USE, DUP, VEC, LEN, GET, SET, ARITH, SELECT, CAST, NAMED, STORE, PROM, FORCE, PEEK, POKE, CALL, DISPATCH, SKIP}

unfoldable pub is_plain : Instr → Bool
is_plain (LIT d i) = true
is_plain (MOVE d a) = true
is_plain (USE d a) = true
is_plain (DUP d a) = true
is_plain (VEC d rs) = true
is_plain (LEN d a) = true
is_plain (GET d a i) = true
is_plain (SET a i e) = true
is_plain (ARITH d op a b) = true
is_plain (SELECT d c a b) = true
is_plain (CAST d a) = true
is_plain (NAMED d x) = true
is_plain (STORE x a) = true
is_plain (PROM d block) = true
is_plain (FORCE d a) = false
is_plain (PEEK d a x) = true
is_plain (POKE a x e) = true
is_plain (CALL d g w rs) = false
is_plain (DISPATCH d g mark ret pairs) = false
is_plain (SKIP a n) = false
