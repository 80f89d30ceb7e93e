-- What the callee ensures whatever the runs of the pool have, these too.
use Rattle.abi.proofs.fir_pool_back.Goals as goal

pub returns : goal.returns
returns c = c.back.ensures c.args.pool.now.has
