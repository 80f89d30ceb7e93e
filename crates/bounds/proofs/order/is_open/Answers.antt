-- `bounds::order::is_open`: by the tests.
use borrow.Author.Tests.{le-ltb}
use Rattle.bounds.proofs.Writing.{entry-is, open-there, open_none}
use Rattle.bounds.proofs.order.is_open.Goals as goal

pub returns-then-table-k : goal.returns-then-table-k
returns-then-table-k c = open-there _ _ _ (entry-is c.args.tabled.listed _) c.if-table-k.true

pub returns-else-table-k : goal.returns-else-table-k
returns-else-table-k c = rw (le-ltb _ _ c.if-table-k.false) (open_none _ _ _ (entry-is c.args.tabled.listed _) c.if-table-k.false)
