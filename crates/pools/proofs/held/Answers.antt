use Rattle.pools.proofs.Having.{has_ended, has-running}
use Rattle.pools.proofs.held.Goals as goal

pub returns-then-bytes-ne0 : goal.returns-then-bytes-ne0
returns-then-bytes-ne0 c =
    has_ended _ _ c.if-bytes-ne0.true

pub returns : goal.returns
returns c =
    has-running _ _ c.if-bytes-ne0.false c.vectors.ensures
