-- `typing::registers::is_integer`: the kind of its type.
use Rattle.rules.specs.Types.{is_integer}
use Rattle.typing.proofs.registers.is_integer.Goals as goal

pub returns : goal.returns
unfolding is_integer
returns c =
    simp c.kind_in.ensures
