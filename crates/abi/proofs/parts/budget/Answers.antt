-- `abi::parts::budget`: 13 first; else what the steps come to.
use Rattle.abi.proofs.Pausing.{budget-refused, budget-taken}
use Rattle.abi.proofs.parts.budget.Goals as goal

pub returns-then-buffer-lt-ITEMS : goal.returns-then-buffer-lt-ITEMS
returns-then-buffer-lt-ITEMS c =
    budget-refused _ _ _ _ _ c.if-buffer-lt-ITEMS.true c.refused.ensures

pub returns : goal.returns
returns c =
    budget-taken _ _ _ _ _ _ _ _ _ c.if-buffer-lt-ITEMS.false c.resume-counted.ensures c.answered.ensures
