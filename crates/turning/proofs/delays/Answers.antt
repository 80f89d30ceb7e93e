use Rattle.turning.proofs.Looking.{delays-look}
use Rattle.turning.proofs.delays.Goals as goal

pub returns : goal.returns
returns c =
    delays-look _ _ _ _ _ _ _ _ _ _ _ c.blocks-blocks.ensures c.own-v.ensures c.prom.ensures
