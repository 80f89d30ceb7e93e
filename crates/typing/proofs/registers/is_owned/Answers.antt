-- `typing::registers::is_owned`: its type taken apart.
use Rattle.typing.proofs.Owners.{owned-vector, no-vector}
use mathlib.Core.Path.{sym, ◌∙◌}
use Rattle.typing.proofs.registers.is_owned.Goals as goal

pub returns-in_default : goal.returns-in_default
returns-in_default c =
    sym (no-vector _ (rw c.type_in.ensures.0 at (sym c.owned_kind.ensures ∙ c.in_default.is)))

pub returns : goal.returns
returns c =
    owned-vector _ _ (rw c.type_in.ensures.0 at (sym c.owned_kind.ensures ∙ c.in-Some.is))
