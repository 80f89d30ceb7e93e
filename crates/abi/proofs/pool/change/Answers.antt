use Rattle.abi.proofs.Pooling.{change-refused, change-taken, fails, passes}
use Rattle.abi.proofs.pool.change.Goals as goal

pub returns-then-refuses : goal.returns-then-refuses
returns-then-refuses c =
    λ n hs. change-refused _ _ (fails _ hs _ c.refuses.ensures c.if-refuses.true) _ _ _ c.grant.ensures

pub returns : goal.returns
returns c =
    λ n hs. change-taken _ _ (passes _ hs _ c.refuses.ensures c.if-refuses.false) _ _ _ (c.change.ensures n)
