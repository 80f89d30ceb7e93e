-- `typing::registers::type_in`: the register stands in a field.
use Rattle.typing.proofs.registers.type_in.Goals as goal

pub returns : goal.returns
returns c =
    (rw c.field.ensures.0 at c.type_of.ensures.0, c.type_of.ensures.1)
