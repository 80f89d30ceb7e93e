-- `typing::fits::instruction_fits`: one row for each kind.
use Rattle.layout.specs.Records.{choose}
use Rattle.program.specs.Places.{instr_at}
use Rattle.program.specs.Program.{instr_by}
use Rattle.rules.specs.Fits.{fits}
use borrow.Author.Tests.{ne_eqb}
use mathlib.Core.Path.{sym, ◌∙◌}
use Rattle.typing.proofs.fits.instruction_fits.Goals as goal

pub returns-in-17 : goal.returns-in-17
unfolding instr_at
returns-in-17 c =
    c.move_fits.ensures ∙ simp (sym c.kind_at.ensures ∙ c.in-17.is)

pub returns-in-18 : goal.returns-in-18
unfolding instr_at
returns-in-18 c =
    c.use_fits.ensures ∙ simp (sym c.kind_at.ensures ∙ c.in-18.is)

pub returns-in-19 : goal.returns-in-19
unfolding instr_at
returns-in-19 c =
    c.dup_fits.ensures ∙ simp (sym c.kind_at.ensures ∙ c.in-19.is)

pub returns-in-20 : goal.returns-in-20
unfolding instr_at
returns-in-20 c =
    c.vec_fits.ensures ∙ simp (sym c.kind_at.ensures ∙ c.in-20.is)

pub returns-in-21 : goal.returns-in-21
unfolding instr_at
returns-in-21 c =
    c.len_fits.ensures ∙ simp (sym c.kind_at.ensures ∙ c.in-21.is)

pub returns-in-22 : goal.returns-in-22
unfolding instr_at
returns-in-22 c =
    c.get_fits.ensures ∙ simp (sym c.kind_at.ensures ∙ c.in-22.is)

pub returns-in-23 : goal.returns-in-23
unfolding instr_at
returns-in-23 c =
    c.set_fits.ensures ∙ simp (sym c.kind_at.ensures ∙ c.in-23.is)

pub returns-in-24 : goal.returns-in-24
unfolding instr_at
returns-in-24 c =
    c.arith_fits.ensures ∙ simp (sym c.kind_at.ensures ∙ c.in-24.is)

pub returns-in-25 : goal.returns-in-25
unfolding instr_at
returns-in-25 c =
    c.select_fits.ensures ∙ simp (sym c.kind_at.ensures ∙ c.in-25.is)

pub returns-in-26 : goal.returns-in-26
unfolding instr_at
returns-in-26 c =
    c.cast_fits.ensures ∙ simp (sym c.kind_at.ensures ∙ c.in-26.is)

pub returns-in-27 : goal.returns-in-27
unfolding fits instr_at instr_by choose
returns-in-27 c =
    c.takes_plain.ensures ∙ simp (sym c.kind_at.ensures ∙ c.in-27.is)

pub returns-in-28 : goal.returns-in-28
unfolding fits instr_at instr_by choose
returns-in-28 c =
    c.is_value.ensures ∙ simp (sym c.kind_at.ensures ∙ c.in-28.is)

pub returns-in-29 : goal.returns-in-29
unfolding instr_at
returns-in-29 c =
    c.prom_fits.ensures ∙ simp (sym c.kind_at.ensures ∙ c.in-29.is)

pub returns-in-30 : goal.returns-in-30
unfolding instr_at
returns-in-30 c =
    c.force_fits.ensures ∙ simp (sym c.kind_at.ensures ∙ c.in-30.is)

pub returns-in-31 : goal.returns-in-31
unfolding instr_at
returns-in-31 c =
    c.peek_fits.ensures ∙ simp (sym c.kind_at.ensures ∙ c.in-31.is)

pub returns-in-32 : goal.returns-in-32
unfolding instr_at
returns-in-32 c =
    c.poke_fits.ensures ∙ simp (sym c.kind_at.ensures ∙ c.in-32.is)

pub returns-in-33 : goal.returns-in-33
unfolding instr_at
returns-in-33 c =
    c.call_fits.ensures ∙ simp (sym c.kind_at.ensures ∙ c.in-33.is)

pub returns-in-34 : goal.returns-in-34
unfolding instr_at
returns-in-34 c =
    c.dispatch_fits.ensures ∙ simp (sym c.kind_at.ensures ∙ c.in-34.is)

pub returns-in-35 : goal.returns-in-35
unfolding fits instr_at instr_by choose
returns-in-35 c =
    c.is_integer.ensures ∙ simp (sym c.kind_at.ensures ∙ c.in-35.is)

pub returns-in_default : goal.returns-in_default
unfolding fits instr_at instr_by choose
returns-in_default c =
    c.takes_plain-in_default.ensures ∙ simp (
      ← c.kind_at.ensures,
      ne_eqb _ _ c.in_default.in_default-own.rest.0.0.0.0.0.0.0.0.0.0.0.0.0.0.0.0.0.0.1,
      ne_eqb _ _ c.in_default.in_default-own.rest.0.0.0.0.0.0.0.0.0.0.0.0.0.0.0.0.0.1,
      ne_eqb _ _ c.in_default.in_default-own.rest.0.0.0.0.0.0.0.0.0.0.0.0.0.0.0.0.1,
      ne_eqb _ _
          c.in_default.in_default-own.rest.0.0.0.0.0.0.0.0.0.0.0.0.0.0.0.1,
      ne_eqb _ _ c.in_default.in_default-own.rest.0.0.0.0.0.0.0.0.0.0.0.0.0.0.1,
      ne_eqb _ _ c.in_default.in_default-own.rest.0.0.0.0.0.0.0.0.0.0.0.0.0.1,
      ne_eqb _ _ c.in_default.in_default-own.rest.0.0.0.0.0.0.0.0.0.0.0.0.1,
      ne_eqb _ _
          c.in_default.in_default-own.rest.0.0.0.0.0.0.0.0.0.0.0.1,
      ne_eqb _ _ c.in_default.in_default-own.rest.0.0.0.0.0.0.0.0.0.0.1,
      ne_eqb _ _ c.in_default.in_default-own.rest.0.0.0.0.0.0.0.0.0.1,
      ne_eqb _ _ c.in_default.in_default-own.rest.0.0.0.0.0.0.0.0.1,
      ne_eqb _ _ c.in_default.in_default-own.rest.0.0.0.0.0.0.0.1,
      ne_eqb _ _
          c.in_default.in_default-own.rest.0.0.0.0.0.0.1,
      ne_eqb _ _ c.in_default.in_default-own.rest.0.0.0.0.0.1,
      ne_eqb _ _ c.in_default.in_default-own.rest.0.0.0.0.1,
      ne_eqb _ _ c.in_default.in_default-own.rest.0.0.0.1,
      ne_eqb _ _ c.in_default.in_default-own.rest.0.0.1,
      ne_eqb _ _ c.in_default.in_default-own.rest.0.1,
      ne_eqb _ _ c.in_default.in_default-own.rest.1,
    )
