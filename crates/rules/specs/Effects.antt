-- Types fit when: effects, and question 9.
use Rattle.std.specs.Prelude.{Bool, true, false, not, ◌||◌, eqb}
use Rattle.layout.specs.Tests.{any, found}
use Rattle.program.specs.Program.{Instr, LIT, MOVE, USE, DUP, VEC, LEN, GET, SET, ARITH, SELECT, CAST, NAMED, STORE, PROM, FORCE, PEEK, POKE, CALL, DISPATCH, SKIP, Line, Block}
use Rattle.program.specs.Program.{Version, Program, find_version, mark_of}
use Rattle.rules.specs.Fits.{declared_kind}

-- effect is reflective with PEEK, POKE, FORCE of kind 5, CALL of a reflective version, or a reflective DISPATCH mark; PROM itself is quiet
unfoldable pub reflective : Program → Version → Instr → Bool
reflective P v (LIT d i) = false
reflective P v (MOVE d a) = false
reflective P v (USE d a) = false
reflective P v (DUP d a) = false
reflective P v (VEC d rs) = false
reflective P v (LEN d a) = false
reflective P v (GET d a i) = false
reflective P v (SET a i e) = false
reflective P v (ARITH d op a b) = false
reflective P v (SELECT d c a b) = false
reflective P v (CAST d a) = false
reflective P v (NAMED d x) = false
reflective P v (STORE x a) = false
reflective P v (PROM d block) = false
reflective P v (FORCE d a) = eqb (declared_kind v a) 5
reflective P v (PEEK d a x) = true
reflective P v (POKE a x e) = true
reflective P v (CALL d f w rs) = found (find_version P f w) (λ c. eqb (mark_of c) 1)
reflective P v (DISPATCH d f mark ret pairs) = eqb mark 1
reflective P v (SKIP a k) = false

-- does the mark of a block cover its effect?
unfoldable pub covered : Program → Version → Block → Bool
covered P v b = eqb b.mark 1 || not (any (λ (l : Line). reflective P v l.does) b.code)
