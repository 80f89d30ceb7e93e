-- Decoded forms: lengths of operand lists, and the arguments of a DISPATCH as fields.
use mathlib.Core.Path.{◌≡◌, refl, sym, ap, ◌∙◌}
use mathlib.Core.List.{List, ◌∷◌, map}
use Prim.Native.Nat.{ℕ, zero, suc, ◌+◌}
use native.Mathlib.Omega.{arith}
use lib.ListN.{length}
use Rattle.layout.specs.Kinds as kind
use Rattle.layout.specs.Records.{◌!◌, every, fields, choose, kind_at, body_at}
use Rattle.layout.proofs.Rows.{Rows, choose-each}
use Rattle.program.specs.Program.{Argument, Instr, arguments, instr_by}
use Rattle.program.specs.Places.{instr_at}
use Rattle.program.specs.Shapes.{listed_registers, listed_types}

pub length-arguments : (b : List ℕ) (k n : ℕ) → length (arguments b k n) ≡ n
unfolding arguments
length-arguments b k zero = refl
length-arguments b k (suc n) = ap suc (length-arguments b (k + 2) n)

-- the types and the registers of the pairs are every second field
pub argument-types : (b : List ℕ) (k n : ℕ) → map (λ (a : Argument). a.type) (arguments b k n) ≡ every b k 2 n
unfolding arguments every
argument-types b k zero = refl
argument-types b k (suc n) = ap (λ (l : List ℕ). b ! k ∷ l) (argument-types b (k + 2) n)

pub argument-registers : (b : List ℕ) (k n : ℕ) → map (λ (a : Argument). a.register) (arguments b k n) ≡ every b (k + 1) 2 n
unfolding arguments every
argument-registers b k zero = refl
argument-registers b k (suc n) = let e : k + 2 + 1 ≡ k + 1 + 2 = omega arith in ap (λ (l : List ℕ). b ! (k + 1) ∷ l) (rw e at (argument-registers b (k + 2) n))

-- ---- operands, by the kind of their record

module _ (s : List ℕ) (p i : ℕ) {k : ℕ} (e : k ≡ kind_at s p) where
  pub operand-vec : k ≡ kind.VEC → listed_registers (instr_at s p) ! i ≡ fields (body_at s p) 2 (body_at s p ! 1) ! i
  unfolding listed_registers instr_at instr_by choose
  operand-vec x = simp (sym e ∙ x)

  pub operand-call : k ≡ kind.CALL → listed_registers (instr_at s p) ! i ≡ fields (body_at s p) 4 (body_at s p ! 3) ! i
  unfolding listed_registers instr_at instr_by choose
  operand-call x = simp (sym e ∙ x)

  pub operand-dispatch : k ≡ kind.DISPATCH → listed_registers (instr_at s p) ! i ≡ every (body_at s p) 6 2 (body_at s p ! 4) ! i
  unfolding listed_registers instr_at instr_by choose
  operand-dispatch x = simp (sym e ∙ x, argument-registers)

  pub no_operand : (k ≡ kind.VEC → ⊥) → (k ≡ kind.CALL → ⊥) → (k ≡ kind.DISPATCH → ⊥) → listed_registers (instr_at s p) ! i ≡ 0
  unfolding listed_registers instr_at instr_by Rows
  no_operand x y z = rw (← e) (choose-each (λ (j : Instr). listed_registers j ! i ≡ 0) k _ _ refl
      (λ h. refl, (λ h. refl, (λ h. refl, (λ h. absurd (x h), (λ h. refl, (λ h. refl, (λ h. refl, (λ h. refl, (λ h. refl, (λ h. refl, (λ h. refl, (λ h. refl, (λ h. refl, (λ h. refl, (λ h. refl, (λ h. refl, (λ h. absurd (y h), (λ h. absurd (z h), (λ h. refl, tt))))))))))))))))))))

  pub type-dispatch : k ≡ kind.DISPATCH → listed_types (instr_at s p) ! i ≡ every (body_at s p) 5 2 (body_at s p ! 4) ! i
  unfolding listed_types instr_at instr_by choose
  type-dispatch x = simp (sym e ∙ x, argument-types)

  pub no-type : (k ≡ kind.DISPATCH → ⊥) → listed_types (instr_at s p) ! i ≡ 0
  unfolding listed_types instr_at instr_by Rows
  no-type z = rw (← e) (choose-each (λ (j : Instr). listed_types j ! i ≡ 0) k _ _ refl
      (λ h. refl, (λ h. refl, (λ h. refl, (λ h. refl, (λ h. refl, (λ h. refl, (λ h. refl, (λ h. refl, (λ h. refl, (λ h. refl, (λ h. refl, (λ h. refl, (λ h. refl, (λ h. refl, (λ h. refl, (λ h. refl, (λ h. refl, (λ h. absurd (z h), (λ h. refl, tt))))))))))))))))))))
