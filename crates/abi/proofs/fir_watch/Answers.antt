-- What the callee ensures whatever the numbers of the state are, these too.
use Rattle.abi.proofs.fir_watch.Goals as goal

pub returns : goal.returns
returns c = (c.watched-watched.ensures c.args.state.now.numbers, c.fill.ensures.1)
