-- What the callee ensures whatever the numbers of the state are, these too.
use Rattle.abi.proofs.fir_where.Goals as goal

pub returns : goal.returns
returns c = c.stand.ensures c.args.state.now.numbers
