-- `layout::plain_length_at`: one row of the table for each kind.
use Rattle.layout.specs.Questions.{plain_length}
use Rattle.layout.specs.Records.{choose}
use borrow.Author.Tests.{ne_eqb}
use mathlib.Core.Path.{sym, ◌∙◌}
use Rattle.layout.proofs.plain_length_at.Goals as goal

pub returns-in-1 : goal.returns-in-1
unfolding plain_length choose
returns-in-1 c =
    simp (sym c.kind_at.ensures ∙ c.in-1.is, c.field.ensures.0)

pub returns-in-2 : goal.returns-in-2
unfolding plain_length choose
returns-in-2 c =
    simp (sym c.kind_at.ensures ∙ c.in-2.is)

pub returns-in-3 : goal.returns-in-3
unfolding plain_length choose
returns-in-3 c =
    simp (sym c.kind_at.ensures ∙ c.in-3.is)

pub returns-in-17 : goal.returns-in-17
unfolding plain_length choose
returns-in-17 c =
    simp (sym c.kind_at.ensures ∙ c.in-17.is)

pub returns-in-18 : goal.returns-in-18
unfolding plain_length choose
returns-in-18 c =
    simp (sym c.kind_at.ensures ∙ c.in-18.is)

pub returns-in-19 : goal.returns-in-19
unfolding plain_length choose
returns-in-19 c =
    simp (sym c.kind_at.ensures ∙ c.in-19.is)

pub returns-in-20 : goal.returns-in-20
unfolding plain_length choose
returns-in-20 c =
    simp (sym c.kind_at.ensures ∙ c.in-20.is, c.field-in-20.ensures.0)

pub returns-in-21 : goal.returns-in-21
unfolding plain_length choose
returns-in-21 c =
    simp (sym c.kind_at.ensures ∙ c.in-21.is)

pub returns-in-22 : goal.returns-in-22
unfolding plain_length choose
returns-in-22 c =
    simp (sym c.kind_at.ensures ∙ c.in-22.is)

pub returns-in-23 : goal.returns-in-23
unfolding plain_length choose
returns-in-23 c =
    simp (sym c.kind_at.ensures ∙ c.in-23.is)

pub returns-in-24 : goal.returns-in-24
unfolding plain_length choose
returns-in-24 c =
    simp (sym c.kind_at.ensures ∙ c.in-24.is)

pub returns-in-25 : goal.returns-in-25
unfolding plain_length choose
returns-in-25 c =
    simp (sym c.kind_at.ensures ∙ c.in-25.is)

pub returns-in-26 : goal.returns-in-26
unfolding plain_length choose
returns-in-26 c =
    simp (sym c.kind_at.ensures ∙ c.in-26.is)

pub returns-in-27 : goal.returns-in-27
unfolding plain_length choose
returns-in-27 c =
    simp (sym c.kind_at.ensures ∙ c.in-27.is)

pub returns-in-28 : goal.returns-in-28
unfolding plain_length choose
returns-in-28 c =
    simp (sym c.kind_at.ensures ∙ c.in-28.is)

pub returns-in-29 : goal.returns-in-29
unfolding plain_length choose
returns-in-29 c =
    simp (sym c.kind_at.ensures ∙ c.in-29.is)

pub returns-in-30 : goal.returns-in-30
unfolding plain_length choose
returns-in-30 c =
    simp (sym c.kind_at.ensures ∙ c.in-30.is)

pub returns-in-31 : goal.returns-in-31
unfolding plain_length choose
returns-in-31 c =
    simp (sym c.kind_at.ensures ∙ c.in-31.is)

pub returns-in-32 : goal.returns-in-32
unfolding plain_length choose
returns-in-32 c =
    simp (sym c.kind_at.ensures ∙ c.in-32.is)

pub returns-in-33 : goal.returns-in-33
unfolding plain_length choose
returns-in-33 c =
    simp (sym c.kind_at.ensures ∙ c.in-33.is, c.field-in-33.ensures.0)

pub returns-in-34 : goal.returns-in-34
unfolding plain_length choose
returns-in-34 c =
    simp (sym c.kind_at.ensures ∙ c.in-34.is, c.field-in-34.ensures.0)

pub returns-in-35 : goal.returns-in-35
unfolding plain_length choose
returns-in-35 c =
    simp (sym c.kind_at.ensures ∙ c.in-35.is)

pub returns-in_default : goal.returns-in_default
unfolding plain_length choose
returns-in_default c =
    simp (
      ← c.kind_at.ensures,
      ne_eqb _ _ c.in_default.in_default-own.rest.0.0.0.0.0.0.0.0.0.0.0.0.0.0.0.0.0.0.0.0.0.1,
      ne_eqb _ _ c.in_default.in_default-own.rest.0.0.0.0.0.0.0.0.0.0.0.0.0.0.0.0.0.0.0.0.1,
      ne_eqb _ _ c.in_default.in_default-own.rest.0.0.0.0.0.0.0.0.0.0.0.0.0.0.0.0.0.0.0.1,
      ne_eqb _ _
          c.in_default.in_default-own.rest.0.0.0.0.0.0.0.0.0.0.0.0.0.0.0.0.0.0.1,
      ne_eqb _ _ c.in_default.in_default-own.rest.0.0.0.0.0.0.0.0.0.0.0.0.0.0.0.0.0.1,
      ne_eqb _ _ c.in_default.in_default-own.rest.0.0.0.0.0.0.0.0.0.0.0.0.0.0.0.0.1,
      ne_eqb _ _ c.in_default.in_default-own.rest.0.0.0.0.0.0.0.0.0.0.0.0.0.0.0.1,
      ne_eqb _ _
          c.in_default.in_default-own.rest.0.0.0.0.0.0.0.0.0.0.0.0.0.0.1,
      ne_eqb _ _ c.in_default.in_default-own.rest.0.0.0.0.0.0.0.0.0.0.0.0.0.1,
      ne_eqb _ _ c.in_default.in_default-own.rest.0.0.0.0.0.0.0.0.0.0.0.0.1,
      ne_eqb _ _ c.in_default.in_default-own.rest.0.0.0.0.0.0.0.0.0.0.0.1,
      ne_eqb _ _ c.in_default.in_default-own.rest.0.0.0.0.0.0.0.0.0.0.1,
      ne_eqb _ _
          c.in_default.in_default-own.rest.0.0.0.0.0.0.0.0.0.1,
      ne_eqb _ _ c.in_default.in_default-own.rest.0.0.0.0.0.0.0.0.1,
      ne_eqb _ _ c.in_default.in_default-own.rest.0.0.0.0.0.0.0.1,
      ne_eqb _ _ c.in_default.in_default-own.rest.0.0.0.0.0.0.1,
      ne_eqb _ _ c.in_default.in_default-own.rest.0.0.0.0.0.1,
      ne_eqb _ _ c.in_default.in_default-own.rest.0.0.0.0.1,
      ne_eqb _ _ c.in_default.in_default-own.rest.0.0.0.1,
      ne_eqb _ _
          c.in_default.in_default-own.rest.0.0.1,
      ne_eqb _ _ c.in_default.in_default-own.rest.0.1,
      ne_eqb _ _ c.in_default.in_default-own.rest.1,
    )
