-- `typing::arguments::argument_fits`: by the ownership of the parameter.
use Prim.Native.Nat.{ℕ}
use Rattle.layout.proofs.Bools.{and-on, and-off}
use Rattle.typing.proofs.Ways.{fits-owned, fits-borrowed, fits-shared}
use lib.Dec.{eqb}
use mathlib.Core.Path.{sym, ap, ◌∙◌}
use Rattle.typing.proofs.arguments.argument_fits.Goals as goal

pub returns-then-is_owned : goal.returns-then-is_owned
returns-then-is_owned c =
    ap (λ (n : ℕ). eqb n 1) (rw c.field.ensures.0 at c.occurrences.ensures) ∙ sym (fits-owned _ _ _ c.field-t.ensures.0 c.in-1.is ∙ and-on _ (sym c.is_owned.ensures ∙ c.if-is_owned.true))

pub returns-else-is_owned : goal.returns-else-is_owned
returns-else-is_owned c =
    c.if-is_owned.false ∙ (sym (fits-owned _ _ _ c.field-t.ensures.0 c.in-1.is ∙ and-off _ (sym c.is_owned.ensures ∙ c.if-is_owned.false)))

pub returns-in-2 : goal.returns-in-2
returns-in-2 c =
    c.is_vector.ensures ∙ sym (fits-borrowed _ _ _ c.field-t.ensures.0 c.in-2.is)

pub returns-then-is_shared : goal.returns-then-is_shared
returns-then-is_shared c =
    c.is_within.ensures ∙ rw c.kind_in.ensures (sym (fits-shared _ _ _ c.field-t.ensures.0 c.in_default.in_default-own.rest.0.1 c.in_default.in_default-own.rest.1 ∙ and-on _ (sym c.is_shared.ensures ∙ c.if-is_shared.true)))

pub returns-else-is_shared : goal.returns-else-is_shared
returns-else-is_shared c =
    c.if-is_shared.false ∙ (sym (fits-shared _ _ _ c.field-t.ensures.0 c.in_default.in_default-own.rest.0.1 c.in_default.in_default-own.rest.1 ∙ and-off _ (sym c.is_shared.ensures ∙ c.if-is_shared.false)))
