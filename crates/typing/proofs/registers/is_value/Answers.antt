-- `typing::registers::is_value`: its ownership, then its kind.
use Rattle.layout.proofs.Bools.{and-on, and-off}
use mathlib.Core.Path.{sym, ◌∙◌}
use Rattle.typing.proofs.registers.is_value.Goals as goal

pub returns-then-is_shared : goal.returns-then-is_shared
returns-then-is_shared c =
    c.is_within.ensures ∙ rw c.kind_in.ensures (sym (and-on _ (sym c.is_shared.ensures ∙ c.if-is_shared.true)))

pub returns-else-is_shared : goal.returns-else-is_shared
returns-else-is_shared c =
    c.if-is_shared.false ∙ (sym (and-off _ (sym c.is_shared.ensures ∙ c.if-is_shared.false)))
