use Rattle.machine.specs.Pools.{RUNS}
use lib.Dec.{leb}
use mathlib.Core.Bool.{Bool, ◌||◌}
use mathlib.Core.Path.{sym, ap, ◌∙◌}
use Rattle.pools.proofs.refuses.Goals as goal

pub returns-then-over_reserved : goal.returns-then-over_reserved
returns-then-over_reserved c =
    ap (λ (b : Bool). b || leb RUNS c.args.i) (sym c.if-over_reserved.true ∙ c.over_reserved.ensures)

pub returns : goal.returns
returns c =
    ap (λ (b : Bool). b || leb RUNS c.args.i) (sym c.if-over_reserved.false ∙ c.over_reserved.ensures)
