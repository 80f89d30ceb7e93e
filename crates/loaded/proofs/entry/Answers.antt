-- `loaded::entry`: two bytes.
use Rattle.loaded.specs.Loaded.{entry_in}
use Rattle.loaded.proofs.entry.Goals as goal

pub returns : goal.returns
unfolding entry_in
returns c = c.pair.ensures
