-- `pools::greater`: each return is the one that its test leads to.
use Rattle.pools.proofs.Sums.{larger-right, larger-left}
use Rattle.pools.proofs.greater.Goals as goal

pub returns-then-m-n : goal.returns-then-m-n
returns-then-m-n c = larger-right _ _ c.if-m-n.true

pub returns-else-m-n : goal.returns-else-m-n
returns-else-m-n c = larger-left _ _ c.if-m-n.false
