-- `typing::registers::kind_in`: the kind of its type.
use Rattle.rules.specs.Types.{kind_of}
use Rattle.typing.proofs.registers.kind_in.Goals as goal

pub returns : goal.returns
unfolding kind_of
returns c =
    simp c.type_in.ensures.0
