-- `loaded::lookup::result_at`: the second field of its record.
use Rattle.loaded.specs.Loaded.{block_in}
use Rattle.loaded.proofs.lookup.result_at.Goals as goal

pub returns : goal.returns
unfolding block_in
returns c = λ s. c.byte.ensures
