use Rattle.matching.proofs.Picking.{passes-not, passes-by}
use Rattle.matching.proofs.passes.Goals as goal

pub returns-then-admits : goal.returns-then-admits
returns-then-admits c =
    passes-by _ _ _ _ _ _ _ c.admits.ensures c.if-admits.true c.matches.ensures

pub returns-else-admits : goal.returns-else-admits
returns-else-admits c =
    passes-not _ _ _ _ _ _ c.admits.ensures c.if-admits.false
