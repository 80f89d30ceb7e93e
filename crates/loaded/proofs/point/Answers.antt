-- `loaded::point`: low byte first.
use Rattle.loaded.proofs.Stores.{pointed-by}
use Rattle.loaded.proofs.point.Goals as goal

pub returns : goal.returns
returns c = pointed-by c.args.table.now
    c.args.k c.args.x
    c.put.ensures c.put-2.ensures
