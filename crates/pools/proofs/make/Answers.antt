use Rattle.pools.proofs.Having.{make-ready, make-refused}
use Rattle.pools.proofs.make.Goals as goal

pub returns-then-over_reserved : goal.returns-then-over_reserved
returns-then-over_reserved c =
    make-refused _ _ _ c.over_reserved.ensures c.if-over_reserved.true

pub returns : goal.returns
returns c =
    make-ready _ _ _ c.over_reserved.ensures c.if-over_reserved.false
