-- `trails::count`: the sum; past it 1, and then nothing more.
use borrow.Author.Rules.{rules}
use Rattle.trails.proofs.Counting.{counts-none, counts-on, counts-over}
use Rattle.trails.proofs.count.Goals as goal

pub returns-then-past-ne0 : goal.returns-then-past-ne0
returns-then-past-ne0 c = counts-none _ _ _ c.if-past-ne0.true

pub returns-then-n-le-REACH : goal.returns-then-n-le-REACH
returns-then-n-le-REACH c = counts-on _ _ _ _ c.if-past-ne0.false c.total-n.ensures c.if-n-le-REACH.true

pub returns-else-n-le-REACH : goal.returns-else-n-le-REACH
returns-else-n-le-REACH c = counts-over _ _ _ _ c.if-past-ne0.false c.total-n.ensures (search rules) c.if-n-le-REACH.false
