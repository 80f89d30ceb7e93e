use Rattle.matching.proofs.Picking.{Left}
use lib.ListN.{take}
use Rattle.matching.proofs.pick.Given as goal

abbrev pub invariant-loop-w : goal.invariant-loop-w
invariant-loop-w l = Left l.image l.table l.own l.p (take l.n l.kinds) l.w
