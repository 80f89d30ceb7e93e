use Rattle.matching.proofs.Caching.{keep-done}
use Rattle.matching.proofs.keep.Goals as goal

pub returns : goal.returns
returns c =
    keep-done _ _ _ _ _ _ c.requires.0 c.requires.1
