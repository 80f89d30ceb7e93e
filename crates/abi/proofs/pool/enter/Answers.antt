use Rattle.std.proofs.lemmas.Result.{err_from_is_err_and}
use Rattle.abi.proofs.Pooling.{enters-begun, enters-refused, enters-refused-by-21, fails, passes}
use Rattle.abi.proofs.pool.enter.Goals as goal

pub returns-then-refuses : goal.returns-then-refuses
returns-then-refuses c =
    enters-refused-by-21 _ _ _ _ _ _ _ _ _ (fails _ _ _ c.refuses.ensures c.if-refuses.true)

pub returns-in_err-begin : goal.returns-in_err-begin
returns-in_err-begin c =
    let p = err_from_is_err_and c.from_residual.result c.from_residual.ensures.1 in
    rw (p.1, p.2) (enters-refused _ _ _ _ _ _ _ _ _ (passes _ _ _ c.refuses.ensures c.if-refuses.false) _ _ _ c.begin.ensures _ _ c.in_err-begin.was)

pub returns : goal.returns
returns c =
    enters-begun _ _ _ _ _ _ _ _ _ (passes _ _ _ c.refuses.ensures c.if-refuses.false) _ _ _ c.begin.ensures c.in_ok-begin.was _ _
    c.settle.ensures
