-- `typing::registers::takes_fresh`: owned, or shared of a kind that holds a vector.
use Rattle.rules.specs.Fits.{fresh}
use mathlib.Core.Path.{sym, ◌∙◌}
use Rattle.typing.proofs.registers.takes_fresh.Goals as goal

pub returns-then-is_owned : goal.returns-then-is_owned
unfolding fresh
returns-then-is_owned c =
    simp (sym c.is_owned.ensures ∙ c.if-is_owned.true)

pub returns-else-is_owned : goal.returns-else-is_owned
unfolding fresh
returns-else-is_owned c =
    c.takes_plain.ensures ∙ simp (sym c.is_owned.ensures ∙ c.if-is_owned.false)
