-- `abi::parts::look`: the numbers of what was read.
use Rattle.abi.specs.Looks.{read_numbers}
use Rattle.abi.proofs.parts.look.Goals as goal

pub returns-in-None : goal.returns-in-None
unfolding read_numbers
returns-in-None c =
    rw (← c.look.ensures, c.in-None.is) c.outside.ensures

pub returns-in-Some : goal.returns-in-Some
unfolding read_numbers
returns-in-Some c =
    rw (← c.look.ensures, c.in-Some.is) c.value.ensures
