use Rattle.pools.proofs.Having.{counted}
use Rattle.frames.proofs.Tallying.{nothing-counted}
use mathlib.Core.Path.{refl}
use borrow.Author.Rules.{rules}
use Rattle.pools.proofs.vectors.Goals as goal

pub tally-requires : goal.tally-requires
tally-requires c =
    (nothing-counted refl, search rules)

pub returns : goal.returns
returns c =
    counted _ _ _ c.tally.ensures c.in_use.ensures
