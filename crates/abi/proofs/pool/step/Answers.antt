use Rattle.abi.proofs.Pooling.{fails, passes, steps-in, turned_down}
use Rattle.abi.proofs.pool.step.Goals as goal

pub returns-then-refuses : goal.returns-then-refuses
returns-then-refuses c =
    turned_down _ _ _ _ _ _ (fails _ _ _ c.refuses.ensures c.if-refuses.true) c.turned_down.ensures

pub returns : goal.returns
returns c =
    steps-in _ _ _ _ _ _ (passes _ _ _ c.refuses.ensures c.if-refuses.false)
    c.may_have-most.ensures _ _ _ c.note.ensures _ c.step_within-pause.ensures c.said.ensures c.turn.ensures
