-- `typing::types::owned_kind`: by ownership.
use Rattle.typing.specs.Calls.{owned_kind}
use Rattle.rules.specs.Types.{kind_of, ownership_of, is_owned}
use borrow.Author.Tests.{eq-eqb, ne_eqb}
use Rattle.typing.proofs.types.owned_kind.Goals as goal

pub returns-then-t-eq-OWNED : goal.returns-then-t-eq-OWNED
unfolding owned_kind is_owned ownership_of kind_of
returns-then-t-eq-OWNED c =
    simp (eq-eqb _ _ c.if-t-eq-OWNED.true)

pub returns-else-t-eq-OWNED : goal.returns-else-t-eq-OWNED
unfolding owned_kind is_owned ownership_of
returns-else-t-eq-OWNED c =
    simp (ne_eqb _ _ c.if-t-eq-OWNED.false)
