-- `typing::types::parameter_type`: by kind and ownership.
use Rattle.layout.specs.Tests.{◌and◌}
use Rattle.typing.proofs.Owners.{not-shared, no-ownership}
use Rattle.rules.specs.Types.{kind_of, ownership_of, is_shared, is_vector, parameter_type}
use borrow.Author.Tests.{lt-ltb, le-ltb, eq-eqb, ne_eqb}
use mathlib.Core.Path.{◌∙◌}
use Rattle.typing.proofs.types.parameter_type.Goals as goal

pub returns-then-kind-ge-KINDS : goal.returns-then-kind-ge-KINDS
unfolding parameter_type kind_of ◌and◌
returns-then-kind-ge-KINDS c =
    simp (le-ltb _ _ c.if-kind-ge-KINDS.true)

pub returns-then-ownership-eq-SHARED : goal.returns-then-ownership-eq-SHARED
unfolding parameter_type kind_of is_shared ownership_of ◌and◌
returns-then-ownership-eq-SHARED c =
    simp (lt-ltb _ _ c.if-kind-ge-KINDS.false, eq-eqb _ _ c.if-ownership-eq-SHARED.true)

pub returns-then-ownership-lt-OWNERSHIPS : goal.returns-then-ownership-lt-OWNERSHIPS
unfolding parameter_type kind_of is_shared is_vector ownership_of ◌and◌
returns-then-ownership-lt-OWNERSHIPS c =
    simp (lt-ltb _ _ c.if-kind-ge-KINDS.false, ne_eqb _ _ c.if-ownership-eq-SHARED.false, not-shared _ c.if-ownership-eq-SHARED.false c.if-ownership-lt-OWNERSHIPS.true)

pub returns-else-ownership-lt-OWNERSHIPS : goal.returns-else-ownership-lt-OWNERSHIPS
unfolding parameter_type kind_of is_shared is_vector ownership_of ◌and◌
returns-else-ownership-lt-OWNERSHIPS c =
    le-ltb _ _ c.if-ownership-lt-OWNERSHIPS.false ∙ (simp (lt-ltb _ _ c.if-kind-ge-KINDS.false, ne_eqb _ _ c.if-ownership-eq-SHARED.false, no-ownership _ c.if-ownership-lt-OWNERSHIPS.false))
