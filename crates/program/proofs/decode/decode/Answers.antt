-- `program::decode::decode`: one row of the table for each kind.
use Prim.Native.Nat.{ℕ}
use Rattle.layout.proofs.Fields.{length-every}
use Rattle.layout.specs.Records.{choose}
use Rattle.program.proofs.Forms.{length-arguments}
use Rattle.program.specs.Places.{instr_at}
use Rattle.program.specs.Program.{instr_by}
use Rattle.program.specs.Shapes.{shape_of}
use Rattle.program.specs.declared.Instruction.{Instruction}
use borrow.Author.Rules.{rules}
use borrow.Author.Tests.{ne_eqb}
use lib.IntN.{ℤ}
use mathlib.Core.Path.{ap₂, sym, ◌∙◌}
use mir.Facts.{to_z-of_z}
use mir.Syntax.{w64}
use mir.Val.{SFits}
use Rattle.program.proofs.decode.decode.Goals as goal

pub returns-in-17 : goal.returns-in-17
unfolding instr_at instr_by shape_of choose
returns-in-17 c =
    simp (sym c.kind_at.ensures ∙ c.in-17.is, c.small-in-17.ensures, c.small.ensures)

pub returns-in-18 : goal.returns-in-18
unfolding instr_at instr_by shape_of choose
returns-in-18 c =
    simp (sym c.kind_at.ensures ∙ c.in-18.is, c.small-in-18-2.ensures, c.small-in-18.ensures)

pub returns-in-19 : goal.returns-in-19
unfolding instr_at instr_by shape_of choose
returns-in-19 c =
    simp (sym c.kind_at.ensures ∙ c.in-19.is, c.small-in-19-2.ensures, c.small-in-19.ensures)

pub returns-in-20 : goal.returns-in-20
unfolding instr_at instr_by shape_of choose
returns-in-20 c =
    simp (sym c.kind_at.ensures ∙ c.in-20.is, c.small-in-20-2.ensures, c.small-in-20.ensures, length-every)

pub returns-in-21 : goal.returns-in-21
unfolding instr_at instr_by shape_of choose
returns-in-21 c =
    simp (sym c.kind_at.ensures ∙ c.in-21.is, c.small-in-21-2.ensures, c.small-in-21.ensures)

pub returns-in-22 : goal.returns-in-22
unfolding instr_at instr_by shape_of choose
returns-in-22 c =
    simp (sym c.kind_at.ensures ∙ c.in-22.is, c.small-in-22-3.ensures, c.small-in-22-2.ensures, c.small-in-22.ensures)

pub returns-in-23 : goal.returns-in-23
unfolding instr_at instr_by shape_of choose
returns-in-23 c =
    simp (sym c.kind_at.ensures ∙ c.in-23.is, c.small-in-23-3.ensures, c.small-in-23-2.ensures, c.small-in-23.ensures)

pub returns-in-24 : goal.returns-in-24
unfolding instr_at instr_by shape_of choose
returns-in-24 c =
    simp (sym c.kind_at.ensures ∙ c.in-24.is, c.small-in-24-4.ensures, c.small-in-24-3.ensures, c.small-in-24-2.ensures, c.small-in-24.ensures)

pub returns-in-25 : goal.returns-in-25
unfolding instr_at instr_by shape_of choose
returns-in-25 c =
    simp (sym c.kind_at.ensures ∙ c.in-25.is, c.small-in-25-4.ensures, c.small-in-25-3.ensures, c.small-in-25-2.ensures, c.small-in-25.ensures)

pub returns-in-26 : goal.returns-in-26
unfolding instr_at instr_by shape_of choose
returns-in-26 c =
    simp (sym c.kind_at.ensures ∙ c.in-26.is, c.small-in-26-2.ensures, c.small-in-26.ensures)

pub returns-in-27 : goal.returns-in-27
unfolding instr_at instr_by shape_of choose
returns-in-27 c =
    simp (sym c.kind_at.ensures ∙ c.in-27.is, c.small-in-27-2.ensures, c.small-in-27.ensures)

pub returns-in-28 : goal.returns-in-28
unfolding instr_at instr_by shape_of choose
returns-in-28 c =
    simp (sym c.kind_at.ensures ∙ c.in-28.is, c.small-in-28-2.ensures, c.small-in-28.ensures)

pub returns-in-29 : goal.returns-in-29
unfolding instr_at instr_by shape_of choose
returns-in-29 c =
    simp (sym c.kind_at.ensures ∙ c.in-29.is, c.small-in-29-2.ensures, c.small-in-29.ensures)

pub returns-in-30 : goal.returns-in-30
unfolding instr_at instr_by shape_of choose
returns-in-30 c =
    simp (sym c.kind_at.ensures ∙ c.in-30.is, c.small-in-30-2.ensures, c.small-in-30.ensures)

pub returns-in-31 : goal.returns-in-31
unfolding instr_at instr_by shape_of choose
returns-in-31 c =
    simp (sym c.kind_at.ensures ∙ c.in-31.is, c.small-in-31-3.ensures, c.small-in-31-2.ensures, c.small-in-31.ensures)

pub returns-in-32 : goal.returns-in-32
unfolding instr_at instr_by shape_of choose
returns-in-32 c =
    simp (sym c.kind_at.ensures ∙ c.in-32.is, c.small-in-32-3.ensures, c.small-in-32-2.ensures, c.small-in-32.ensures)

pub returns-in-33 : goal.returns-in-33
unfolding instr_at instr_by shape_of choose
returns-in-33 c =
    simp (sym c.kind_at.ensures ∙ c.in-33.is, c.small-in-33-4.ensures, c.small-in-33-3.ensures, c.small-in-33-2.ensures, c.small-in-33.ensures, length-every)

pub returns-in-34 : goal.returns-in-34
unfolding instr_at instr_by shape_of choose
returns-in-34 c =
    simp (sym c.kind_at.ensures ∙ c.in-34.is, c.small-in-34-5.ensures, c.small-in-34-4.ensures, c.small-in-34-3.ensures, c.small-in-34-2.ensures, c.small-in-34.ensures, length-arguments)

pub returns-in-35 : goal.returns-in-35
unfolding instr_at instr_by shape_of choose
returns-in-35 c =
    simp (sym c.kind_at.ensures ∙ c.in-35.is, c.small-in-35-2.ensures, c.small-in-35.ensures)

pub returns-in_default : goal.returns-in_default
unfolding instr_at instr_by shape_of choose
returns-in_default c =
    let f : SFits w64 c.literal.result = search rules in
    ap₂ (λ (d : ℕ) (i : ℤ). Instruction.Lit d i) c.small-in_default.ensures (to_z-of_z f ∙ c.literal.ensures)
    ∙ simp (
      ← c.kind_at.ensures,
      ne_eqb _ _ c.in_default.in_default-own.rest.0.0.0.0.0.0.0.0.0.0.0.0.0.0.0.0.0.0.1,
      ne_eqb _ _ c.in_default.in_default-own.rest.0.0.0.0.0.0.0.0.0.0.0.0.0.0.0.0.0.1,
      ne_eqb _ _ c.in_default.in_default-own.rest.0.0.0.0.0.0.0.0.0.0.0.0.0.0.0.0.1,
      ne_eqb _ _
          c.in_default.in_default-own.rest.0.0.0.0.0.0.0.0.0.0.0.0.0.0.0.1,
      ne_eqb _ _ c.in_default.in_default-own.rest.0.0.0.0.0.0.0.0.0.0.0.0.0.0.1,
      ne_eqb _ _ c.in_default.in_default-own.rest.0.0.0.0.0.0.0.0.0.0.0.0.0.1,
      ne_eqb _ _ c.in_default.in_default-own.rest.0.0.0.0.0.0.0.0.0.0.0.0.1,
      ne_eqb _ _
          c.in_default.in_default-own.rest.0.0.0.0.0.0.0.0.0.0.0.1,
      ne_eqb _ _ c.in_default.in_default-own.rest.0.0.0.0.0.0.0.0.0.0.1,
      ne_eqb _ _ c.in_default.in_default-own.rest.0.0.0.0.0.0.0.0.0.1,
      ne_eqb _ _ c.in_default.in_default-own.rest.0.0.0.0.0.0.0.0.1,
      ne_eqb _ _ c.in_default.in_default-own.rest.0.0.0.0.0.0.0.1,
      ne_eqb _ _
          c.in_default.in_default-own.rest.0.0.0.0.0.0.1,
      ne_eqb _ _ c.in_default.in_default-own.rest.0.0.0.0.0.1,
      ne_eqb _ _ c.in_default.in_default-own.rest.0.0.0.0.1,
      ne_eqb _ _ c.in_default.in_default-own.rest.0.0.0.1,
      ne_eqb _ _ c.in_default.in_default-own.rest.0.0.1,
      ne_eqb _ _ c.in_default.in_default-own.rest.0.1,
      ne_eqb _ _
          c.in_default.in_default-own.rest.1,
    )
