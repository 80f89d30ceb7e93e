use Rattle.machine.specs.States.{named}
use Rattle.machine.proofs.Frame.name.Goals as goal

pub returns : goal.returns
unfolding named
returns c = c.read.ensures
