-- `moves::passes`: a record that is no literal passes, one of 32 bits always fits.
use mathlib.Core.Path.{refl, sym, ◌∙◌}
use borrow.Author.Tests.{eq-eqb, ne_eqb}
use Rattle.layout.proofs.Printed.{body_bytes}
use Rattle.moves.proofs.Numbers.{narrow-fits}
use Rattle.moves.proofs.passes.Goals as goal

pub returns-then-kind_at-literal_kind : goal.returns-then-kind_at-literal_kind
returns-then-kind_at-literal_kind c =
    rw (ne_eqb _ _ (λ e. c.if-kind_at-literal_kind.true (c.kind_at.ensures ∙ e ∙ sym c.literal_kind.ensures))) refl

pub returns-in-Narrow : goal.returns-in-Narrow
returns-in-Narrow c =
    rw
    (eq-eqb _ _ (sym c.kind_at.ensures ∙ c.if-kind_at-literal_kind.false ∙ c.literal_kind.ensures), c.in-Narrow.is, narrow-fits _ (body_bytes c.args.image.now c.args.p (λ i. (c.shared_slice_known-1.given i).fits))) refl

pub returns-in-Wide : goal.returns-in-Wide
returns-in-Wide c =
    rw (eq-eqb _ _ (sym c.kind_at.ensures ∙ c.if-kind_at-literal_kind.false ∙ c.literal_kind.ensures), c.in-Wide.is) c.fits.ensures
