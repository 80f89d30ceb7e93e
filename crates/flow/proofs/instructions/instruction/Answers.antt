-- `flow::instructions::instruction`: one row for each kind.
use Rattle.rules.specs.Actions.{action_of, touch}
use Rattle.layout.specs.Records.{every, choose}
use Rattle.program.specs.Places.{instr_at}
use Rattle.program.specs.Program.{instr_by}
use borrow.Author.Tests.{ne_eqb}
use mathlib.Core.Path.{◌∙◌, sym}
use Rattle.flow.proofs.instructions.instruction.Goals as goal

pub returns-in-17 : goal.returns-in-17
unfolding every action_of touch instr_at instr_by choose
returns-in-17 c =
    c.plain.ensures ∙ simp (sym c.kind_at.ensures ∙ c.in-17.is)

pub returns-in-18 : goal.returns-in-18
unfolding every action_of touch instr_at instr_by choose
returns-in-18 c =
    c.used.ensures ∙ simp (sym c.kind_at.ensures ∙ c.in-18.is)

pub returns-in-19 : goal.returns-in-19
unfolding every action_of touch instr_at instr_by choose
returns-in-19 c =
    c.plain-in-19.ensures ∙ simp (sym c.kind_at.ensures ∙ c.in-19.is)

pub returns-in-20 : goal.returns-in-20
unfolding every action_of touch instr_at instr_by choose
returns-in-20 c =
    c.plain-in-20.ensures ∙ simp (sym c.kind_at.ensures ∙ c.in-20.is, c.field.ensures.0)

pub returns-in-21 : goal.returns-in-21
unfolding every action_of touch instr_at instr_by choose
returns-in-21 c =
    c.plain-in-21.ensures ∙ simp (sym c.kind_at.ensures ∙ c.in-21.is)

pub returns-in-22 : goal.returns-in-22
unfolding every action_of touch instr_at instr_by choose
returns-in-22 c =
    c.plain-in-22.ensures ∙ simp (sym c.kind_at.ensures ∙ c.in-22.is)

pub returns-in-23 : goal.returns-in-23
unfolding every action_of touch instr_at instr_by choose
returns-in-23 c =
    c.plain-in-23.ensures ∙ simp (sym c.kind_at.ensures ∙ c.in-23.is)

pub returns-in-24 : goal.returns-in-24
unfolding every action_of touch instr_at instr_by choose
returns-in-24 c =
    c.plain-in-24.ensures ∙ simp (sym c.kind_at.ensures ∙ c.in-24.is)

pub returns-in-25 : goal.returns-in-25
unfolding every action_of touch instr_at instr_by choose
returns-in-25 c =
    c.plain-in-25.ensures ∙ simp (sym c.kind_at.ensures ∙ c.in-25.is)

pub returns-in-26 : goal.returns-in-26
unfolding every action_of touch instr_at instr_by choose
returns-in-26 c =
    c.plain-in-26.ensures ∙ simp (sym c.kind_at.ensures ∙ c.in-26.is)

pub returns-in-27 : goal.returns-in-27
unfolding every action_of touch instr_at instr_by choose
returns-in-27 c =
    c.plain-in-27.ensures ∙ simp (sym c.kind_at.ensures ∙ c.in-27.is)

pub returns-in-28 : goal.returns-in-28
unfolding every action_of touch instr_at instr_by choose
returns-in-28 c =
    c.reads_only.ensures ∙ simp (sym c.kind_at.ensures ∙ c.in-28.is)

pub returns-in-29 : goal.returns-in-29
unfolding instr_at
returns-in-29 c =
    c.promising.ensures ∙ simp (sym c.kind_at.ensures ∙ c.in-29.is)

pub returns-in-30 : goal.returns-in-30
unfolding every action_of touch instr_at instr_by choose
returns-in-30 c =
    c.plain-in-30.ensures ∙ simp (sym c.kind_at.ensures ∙ c.in-30.is)

pub returns-in-31 : goal.returns-in-31
unfolding every action_of touch instr_at instr_by choose
returns-in-31 c =
    c.plain-in-31.ensures ∙ simp (sym c.kind_at.ensures ∙ c.in-31.is)

pub returns-in-32 : goal.returns-in-32
unfolding every action_of touch instr_at instr_by choose
returns-in-32 c =
    c.reads_only-in-32.ensures ∙ simp (sym c.kind_at.ensures ∙ c.in-32.is)

pub returns-in-33 : goal.returns-in-33
unfolding every action_of touch instr_at instr_by choose
returns-in-33 c =
    c.calling.ensures ∙ simp (sym c.kind_at.ensures ∙ c.in-33.is)

pub returns-in-34 : goal.returns-in-34
unfolding every action_of touch instr_at instr_by choose
returns-in-34 c =
    c.dispatching.ensures ∙ simp (sym c.kind_at.ensures ∙ c.in-34.is)

pub returns-in-35 : goal.returns-in-35
unfolding every action_of touch instr_at instr_by choose
returns-in-35 c =
    c.skipping.ensures ∙ simp (sym c.kind_at.ensures ∙ c.in-35.is)

pub returns-in_default : goal.returns-in_default
unfolding every action_of touch instr_at instr_by choose
returns-in_default c =
    c.plain-in_default.ensures ∙ simp (
      ← c.kind_at.ensures,
      ne_eqb _ _ c.in_default.in_default-own.rest.0.0.0.0.0.0.0.0.0.0.0.0.0.0.0.0.0.0.1,
      ne_eqb _ _ c.in_default.in_default-own.rest.0.0.0.0.0.0.0.0.0.0.0.0.0.0.0.0.0.1,
      ne_eqb _ _ c.in_default.in_default-own.rest.0.0.0.0.0.0.0.0.0.0.0.0.0.0.0.0.1,
      ne_eqb _ _
          c.in_default.in_default-own.rest.0.0.0.0.0.0.0.0.0.0.0.0.0.0.0.1,
      ne_eqb _ _ c.in_default.in_default-own.rest.0.0.0.0.0.0.0.0.0.0.0.0.0.0.1,
      ne_eqb _ _ c.in_default.in_default-own.rest.0.0.0.0.0.0.0.0.0.0.0.0.0.1,
      ne_eqb _ _ c.in_default.in_default-own.rest.0.0.0.0.0.0.0.0.0.0.0.0.1,
      ne_eqb _ _
          c.in_default.in_default-own.rest.0.0.0.0.0.0.0.0.0.0.0.1,
      ne_eqb _ _ c.in_default.in_default-own.rest.0.0.0.0.0.0.0.0.0.0.1,
      ne_eqb _ _ c.in_default.in_default-own.rest.0.0.0.0.0.0.0.0.0.1,
      ne_eqb _ _ c.in_default.in_default-own.rest.0.0.0.0.0.0.0.0.1,
      ne_eqb _ _ c.in_default.in_default-own.rest.0.0.0.0.0.0.0.1,
      ne_eqb _ _
          c.in_default.in_default-own.rest.0.0.0.0.0.0.1,
      ne_eqb _ _ c.in_default.in_default-own.rest.0.0.0.0.0.1,
      ne_eqb _ _ c.in_default.in_default-own.rest.0.0.0.0.1,
      ne_eqb _ _ c.in_default.in_default-own.rest.0.0.0.1,
      ne_eqb _ _ c.in_default.in_default-own.rest.0.0.1,
      ne_eqb _ _ c.in_default.in_default-own.rest.0.1,
      ne_eqb _ _ c.in_default.in_default-own.rest.1,
    )
