-- `loaded::put`: a byte that is not there is not set.
use mathlib.Core.Path.{sym}
use lib.Seq.{set_out}
use Rattle.loaded.proofs.put.Goals as goal

pub returns-else-k-table : goal.returns-else-k-table
returns-else-k-table c = sym (set_out c.args.table.now c.args.k c.args.x c.if-k-table.false)
