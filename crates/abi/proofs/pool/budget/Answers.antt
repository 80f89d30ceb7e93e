use Rattle.abi.proofs.Pooling.{answers-in, answers-refused, answers-short, fails, passes}
use Rattle.abi.proofs.pool.budget.Goals as goal

pub returns-then-refuses : goal.returns-then-refuses
returns-then-refuses c =
    answers-refused _ _ _ _ _ _ _ _ (fails _ _ _ c.refuses.ensures c.if-refuses.true) c.refused.ensures

pub returns-then-buffer-lt-ITEMS : goal.returns-then-buffer-lt-ITEMS
returns-then-buffer-lt-ITEMS c =
    answers-short _ _ _ _ _ _ _ _ (passes _ _ _ c.refuses.ensures c.if-refuses.false) c.if-buffer-lt-ITEMS.true c.refused-then-buffer-lt-ITEMS.ensures

pub returns : goal.returns
returns c =
    answers-in _ _ _ _ _ _ _ _ (passes _ _ _ c.refuses.ensures c.if-refuses.false)
    c.may_have.ensures _ _ _ c.note.ensures _ c.resume_within-counted.ensures
    c.if-buffer-lt-ITEMS.false _ c.answered.ensures
