use Rattle.abi.proofs.Pooling.{back_none, back-refused, fails, passes}
use Rattle.abi.proofs.pool.back.Goals as goal

pub returns-then-refuses : goal.returns-then-refuses
returns-then-refuses c =
    λ hs. back-refused _ _ (fails _ hs _ c.refuses.ensures c.if-refuses.true) c.grant.ensures

pub returns : goal.returns
returns c =
    λ hs. back_none _ _ (passes _ hs _ c.refuses.ensures c.if-refuses.false) c.grant-2.ensures
