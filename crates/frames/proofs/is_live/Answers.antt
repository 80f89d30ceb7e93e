use borrow.Author.Tests.{le-ltb}
use Rattle.frames.proofs.Closing.{lives_by, none_here}
use Rattle.frames.proofs.is_live.Goals as goal

pub returns-then-k-lt32 : goal.returns-then-k-lt32
returns-then-k-lt32 c = lives_by _ _ c.wide.ensures.0 c.if-k-lt32.true

pub returns-else-k-lt32 : goal.returns-else-k-lt32
returns-else-k-lt32 c = rw (le-ltb c.args.k 32 c.if-k-lt32.false) (none_here _ _ c.if-k-lt32.false)
