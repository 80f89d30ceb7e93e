-- What the callee ensures whatever the numbers of the state are and the runs of the pool have, these too.
use Rattle.abi.proofs.fir_pool_change.Goals as goal

pub returns : goal.returns
returns c = c.change.ensures c.args.state.now.numbers c.args.pool.now.has
