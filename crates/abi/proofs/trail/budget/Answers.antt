-- `abi::trail::budget`: 13 first; else what the steps come to, and the trail behind them.
use Rattle.abi.proofs.Trailing.{budget-on, budget-short}
use Rattle.abi.proofs.trail.budget.Goals as goal

pub returns-then-buffer-lt-ITEMS : goal.returns-then-buffer-lt-ITEMS
returns-then-buffer-lt-ITEMS c =
    budget-short _ _ _ _ _ _ _ c.if-buffer-lt-ITEMS.true c.refused.ensures

pub returns : goal.returns
returns c =
    budget-on _ _ _ _ _ _ _ _ _ _ _ _ _ c.if-buffer-lt-ITEMS.false c.resume-counted.ensures c.answered.ensures
