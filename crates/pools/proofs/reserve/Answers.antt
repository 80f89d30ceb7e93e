use Rattle.pools.proofs.Sums.{past}
use mathlib.Core.Path.{sym}
use borrow.Author.Rules.{rules}
use Rattle.pools.proofs.reserve.Goals as goal

pub returns-else-i-lt-RUNS : goal.returns-else-i-lt-RUNS
returns-else-i-lt-RUNS c =
    sym (past c.args.reserves c.args.i 8 (search rules) c.if-i-lt-RUNS.false)
