use Rattle.matching.proofs.Caching.{holds_not, holds_by}
use Rattle.matching.proofs.holds.Goals as goal

pub returns-then-cache-i : goal.returns-then-cache-i
returns-then-cache-i c =
    holds_not _ _ _ _ _

pub returns-then-cache-i-2 : goal.returns-then-cache-i-2
returns-then-cache-i-2 c =
    holds_not _ _ _ _ _

pub returns : goal.returns
returns c =
    holds_by c.args.cache.now c.args.i _ _
    c.args.code c.if-cache-i.false c.if-cache-i-2.false
