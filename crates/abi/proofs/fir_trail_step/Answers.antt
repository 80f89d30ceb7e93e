-- What the callee ensures whatever the start is, this one too.
use Rattle.abi.proofs.fir_trail_step.Goals as goal

pub returns : goal.returns
returns c = c.step.ensures c.args.trail.now.bytes c.args.trail.now.numbers
