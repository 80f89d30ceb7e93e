use Rattle.pools.proofs.Having.{past-set}
use lib.ListN.{set}
use mathlib.Core.Path.{ap}
use borrow.Author.Rules.{rules}
use Rattle.pools.proofs.note.Goals as goal

pub returns-then-i-lt-RUNS : goal.returns-then-i-lt-RUNS
returns-then-i-lt-RUNS c =
    ap (set c.args.has.now c.args.i) c.held-n.ensures

pub returns-else-i-lt-RUNS : goal.returns-else-i-lt-RUNS
returns-else-i-lt-RUNS c =
    past-set _ _ _ (search rules)
