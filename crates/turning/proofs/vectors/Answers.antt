use Rattle.turning.proofs.Looking.{vec-as, sliced}
use Rattle.turning.proofs.vectors.Goals as goal

pub returns : goal.returns
returns c =
    vec-as _ _ _ _ _ _ _ _ _ _ _ c.byte-d.ensures
    (sliced _ _ _ _ c.listed.ensures.0 c.few-n.ensures.0
    c.byte.ensures) c.vec.ensures
