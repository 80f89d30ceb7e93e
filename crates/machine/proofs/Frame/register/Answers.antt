use Rattle.machine.specs.States.{register}
use Rattle.machine.proofs.Frame.register.Goals as goal

pub returns : goal.returns
unfolding register
returns c = c.read.ensures
