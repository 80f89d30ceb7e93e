-- What the callee ensures whatever the start is, this one too.
use Rattle.abi.proofs.fir_trail_budget.Goals as goal

pub returns : goal.returns
returns c = c.budget.ensures c.args.trail.now.bytes c.args.trail.now.numbers
