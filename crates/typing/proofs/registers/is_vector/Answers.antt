-- `typing::registers::is_vector`: the kind of its type.
use Rattle.rules.specs.Types.{is_vector}
use Rattle.typing.proofs.registers.is_vector.Goals as goal

pub returns : goal.returns
unfolding is_vector
returns c =
    simp c.kind_in.ensures
