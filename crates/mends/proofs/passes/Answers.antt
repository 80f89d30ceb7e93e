-- `mends::passes`: by the question.
use mathlib.Core.Path.{◌∙◌}
use borrow.Author.Tests.{ne_eqb}
use Rattle.layout.specs.Records.{choose}
use Rattle.mends.specs.Parts.{question_by}
use Rattle.mends.proofs.passes.Goals as goal

pub returns-in-6 : goal.returns-in-6
unfolding question_by choose
returns-in-6 c =
    c.types_at.ensures ∙ rw c.in-6.is

pub returns-in-8 : goal.returns-in-8
unfolding question_by choose
returns-in-8 c =
    c.fits_at.ensures ∙ rw c.in-8.is

pub returns-in-9 : goal.returns-in-9
unfolding question_by choose
returns-in-9 c =
    c.covers_at.ensures ∙ rw c.in-9.is

pub returns-in_default : goal.returns-in_default
unfolding question_by choose
returns-in_default c =
    c.flows_at.ensures ∙ simp (ne_eqb _ _ c.in_default.in_default-own.rest.0.0.1, ne_eqb _ _ c.in_default.in_default-own.rest.0.1, ne_eqb _ _ c.in_default.in_default-own.rest.1)
