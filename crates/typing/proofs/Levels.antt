-- Question 18: what is asked of a CALL, and of every other record.
use mathlib.Core.Path.{◌≡◌, refl, sym, ap, ◌∙◌}
use mathlib.Core.List.{List}
use mathlib.Core.Bool.{Bool, true, false}
use Prim.Native.Nat.{ℕ}
use lib.Dec.{eqb}
use borrow.Author.Tests.{eqb-true, eqb-false}
use Rattle.layout.specs.Kinds as kind
use Rattle.layout.specs.Records.{kind_at, body_at}
use Rattle.layout.proofs.Rows.{Rows, choose-each}
use Rattle.program.specs.Program.{Instr, Version, Program, instr_of, instr_by}
use Rattle.program.specs.Places.{instr_at, asked}
use Rattle.program.specs.declared.Here.{Here}
use Rattle.program.proofs.Passes.{asked-version, asked-anywhere}
use Rattle.rules.specs.Questions.{stays_down, question18}

-- every instruction but CALL stays down
stays-other : (P : Program) (v : Version) (k : ℕ) (b : List ℕ) → (k ≡ kind.CALL → ⊥) → stays_down P v (instr_of k b) ≡ true
unfolding stays_down instr_by Rows
stays-other P v k b c = choose-each (λ (i : Instr). stays_down P v i ≡ true) k _ _ refl
    (λ e. refl, (λ e. refl, (λ e. refl, (λ e. refl, (λ e. refl, (λ e. refl, (λ e. refl, (λ e. refl, (λ e. refl, (λ e. refl, (λ e. refl, (λ e. refl, (λ e. refl, (λ e. refl, (λ e. refl, (λ e. refl, (λ e. absurd (c e), (λ e. refl, (λ e. refl, tt)))))))))))))))))))

-- so a record that is no CALL passes wherever it stands
pub asked-other : (P : Program) (s : List ℕ) (h : Here) (p : ℕ) {k : ℕ} → k ≡ kind_at s p → (k ≡ kind.CALL → ⊥) → asked (question18 P) s h p ≡ true
unfolding instr_at
asked-other P s h p {k} e c = go (eqb k kind.VERSION) refl
  where
    go : (b : Bool) → eqb k kind.VERSION ≡ b → asked (question18 P) s h p ≡ true
    go true x = asked-version (question18 P) s h p e (eqb-true k kind.VERSION x)
    go false x = asked-anywhere (question18 P) s h p e (eqb-false k kind.VERSION x) (λ v n. refl) (λ v n. stays-other P v (kind_at s p) (body_at s p) (λ y. c (e ∙ y)))

-- a CALL at p
pub call_at : (P : Program) (v : Version) (s : List ℕ) (p : ℕ) {k : ℕ} → k ≡ kind_at s p → k ≡ kind.CALL → stays_down P v (instr_of kind.CALL (body_at s p)) ≡ stays_down P v (instr_at s p)
unfolding instr_at
call_at P v s p e c = ap (λ (x : ℕ). stays_down P v (instr_of x (body_at s p))) (sym c ∙ e)
