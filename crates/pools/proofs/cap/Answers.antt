use Rattle.pools.proofs.Having.{cap-fits, cap-over}
use Rattle.pools.proofs.cap.Goals as goal

pub returns-then-n-most : goal.returns-then-n-most
returns-then-n-most c =
    cap-fits _ _ _ c.vectors-n.ensures c.if-n-most.true

pub returns : goal.returns
returns c =
    cap-over _ _ _ c.vectors-n.ensures c.if-n-most.false _ c.stop_start.ensures
