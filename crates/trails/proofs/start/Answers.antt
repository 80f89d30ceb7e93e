-- `trails::start`: every byte of the state, and no step behind.
use Rattle.trails.proofs.Starting.{starts}
use Rattle.trails.proofs.start.Goals as goal

pub returns : goal.returns
returns c = starts _ _
