use Rattle.matching.proofs.Looking.{Counting}
use Rattle.matching.specs.Arguments.{dispatches_at}
use Rattle.loaded.specs.Loaded.{program_in}
use lib.ListN.{take}
use Rattle.matching.proofs.searched.Given as goal

abbrev pub invariant-loop-w : goal.invariant-loop-w
invariant-loop-w l = Counting (program_in l.image l.table) l.f (dispatches_at l.image l.table l.own l.p (take l.n l.kinds)) l.w l.c
