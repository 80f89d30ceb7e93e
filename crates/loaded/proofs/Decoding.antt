-- The instruction that a kind and its fields make, kind by kind.
use mathlib.Core.Path.{◌≡◌}
use mathlib.Core.List.{List}
use Prim.Native.Nat.{ℕ}
use Rattle.layout.specs.Kinds as kind
use Rattle.layout.specs.Records.{◌!◌, choose, fields}
use Rattle.layout.specs.declared.Form.{Form}
use Rattle.program.specs.Program.{LIT, MOVE, USE, DUP, VEC, LEN, GET, SET, ARITH, SELECT, CAST, NAMED, STORE, PROM, FORCE, PEEK, POKE, CALL, DISPATCH, SKIP, arguments, instr_by, instr_of}
use Rattle.program.specs.Program.{number_in}

module _ {k : ℕ} (d : List ℕ) where
  pub is_move : k ≡ kind.MOVE → instr_of k d ≡ MOVE (d ! 0) (d ! 1)
  unfolding instr_by choose
  is_move e = simp e

  pub is-use : k ≡ kind.USE → instr_of k d ≡ USE (d ! 0) (d ! 1)
  unfolding instr_by choose
  is-use e = simp e

  pub is-dup : k ≡ kind.DUP → instr_of k d ≡ DUP (d ! 0) (d ! 1)
  unfolding instr_by choose
  is-dup e = simp e

  pub is-vec : k ≡ kind.VEC → instr_of k d ≡ VEC (d ! 0) (fields d 2 (d ! 1))
  unfolding instr_by choose
  is-vec e = simp e

  pub is-len : k ≡ kind.LEN → instr_of k d ≡ LEN (d ! 0) (d ! 1)
  unfolding instr_by choose
  is-len e = simp e

  pub is_get : k ≡ kind.GET → instr_of k d ≡ GET (d ! 0) (d ! 1) (d ! 2)
  unfolding instr_by choose
  is_get e = simp e

  pub is_set : k ≡ kind.SET → instr_of k d ≡ SET (d ! 0) (d ! 1) (d ! 2)
  unfolding instr_by choose
  is_set e = simp e

  pub is-arith : k ≡ kind.ARITH → instr_of k d ≡ ARITH (d ! 0) (d ! 1) (d ! 2) (d ! 3)
  unfolding instr_by choose
  is-arith e = simp e

  pub is-select : k ≡ kind.SELECT → instr_of k d ≡ SELECT (d ! 0) (d ! 1) (d ! 2) (d ! 3)
  unfolding instr_by choose
  is-select e = simp e

  pub is-cast : k ≡ kind.CAST → instr_of k d ≡ CAST (d ! 0) (d ! 1)
  unfolding instr_by choose
  is-cast e = simp e

  pub is-named : k ≡ kind.NAMED → instr_of k d ≡ NAMED (d ! 0) (d ! 1)
  unfolding instr_by choose
  is-named e = simp e

  pub is_store : k ≡ kind.STORE → instr_of k d ≡ STORE (d ! 0) (d ! 1)
  unfolding instr_by choose
  is_store e = simp e

  pub is-prom : k ≡ kind.PROM → instr_of k d ≡ PROM (d ! 0) (d ! 1)
  unfolding instr_by choose
  is-prom e = simp e

  pub is-force : k ≡ kind.FORCE → instr_of k d ≡ FORCE (d ! 0) (d ! 1)
  unfolding instr_by choose
  is-force e = simp e

  pub is-peek : k ≡ kind.PEEK → instr_of k d ≡ PEEK (d ! 0) (d ! 1) (d ! 2)
  unfolding instr_by choose
  is-peek e = simp e

  pub is-poke : k ≡ kind.POKE → instr_of k d ≡ POKE (d ! 0) (d ! 1) (d ! 2)
  unfolding instr_by choose
  is-poke e = simp e

  pub is_call : k ≡ kind.CALL → instr_of k d ≡ CALL (d ! 0) (d ! 1) (d ! 2) (fields d 4 (d ! 3))
  unfolding instr_by choose
  is_call e = simp e

  pub is-dispatch : k ≡ kind.DISPATCH → instr_of k d ≡ DISPATCH (d ! 0) (d ! 1) (d ! 2) (d ! 3) (arguments d 5 (d ! 4))
  unfolding instr_by choose
  is-dispatch e = simp e

  pub is-skip : k ≡ kind.SKIP → instr_of k d ≡ SKIP (d ! 0) (d ! 1)
  unfolding instr_by choose
  is-skip e = simp e

  pub is-lit : k ≡ kind.LIT → instr_of k d ≡ LIT (d ! 0) (number_in Form.Wide d)
  unfolding instr_by choose
  is-lit e = simp e
