-- `typing::arguments::of_dispatch`: its pairs.
use Rattle.typing.specs.Calls.{dispatch_of}
use lib.Dec.{lit<}
use Rattle.typing.proofs.arguments.of_dispatch.Goals as goal

pub returns : goal.returns
unfolding dispatch_of
returns c =
    (simp c.field.ensures.0, record { types = lit< tt; registers = lit< tt; step = lit< tt; n = c.field.ensures.1 })
