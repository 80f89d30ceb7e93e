-- `layout::length_at`: that of the form's literal, or of a kind of both forms.
use Rattle.layout.specs.Questions.{length_of}
use borrow.Author.Tests.{eq-eqb, ne_eqb}
use mathlib.Core.Path.{sym, ◌∙◌}
use Rattle.layout.proofs.length_at.Goals as goal

pub returns-then-kind_at-literal_kind : goal.returns-then-kind_at-literal_kind
unfolding length_of
returns-then-kind_at-literal_kind c =
    rw (eq-eqb _ _ (sym c.kind_at.ensures ∙ c.if-kind_at-literal_kind.true ∙ c.literal_kind.ensures)) c.literal_length.ensures

pub returns : goal.returns
unfolding length_of
returns c =
    rw (ne_eqb _ _ (λ q. c.if-kind_at-literal_kind.false (c.kind_at.ensures ∙ q ∙ sym c.literal_kind.ensures))) c.plain_length_at.ensures
