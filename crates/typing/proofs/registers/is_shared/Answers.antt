-- `typing::registers::is_shared`: the ownership of its type.
use Rattle.rules.specs.Types.{is_shared, ownership_of}
use Rattle.typing.proofs.registers.is_shared.Goals as goal

pub returns : goal.returns
unfolding is_shared ownership_of
returns c =
    simp c.type_in.ensures.0
