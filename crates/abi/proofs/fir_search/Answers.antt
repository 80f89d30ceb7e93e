-- What the callee ensures whatever the numbers of the state are, these too.
use Rattle.abi.proofs.fir_search.Goals as goal

pub returns : goal.returns
returns c = c.search.ensures c.args.state.now.numbers
