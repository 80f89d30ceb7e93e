use Rattle.matching.proofs.Picking.{Fitting}
use Rattle.loaded.specs.Loaded.{version_in}
use Rattle.matching.proofs.matches.Given as goal

abbrev pub invariant-loop-i : goal.invariant-loop-i
invariant-loop-i l = Fitting (version_in l.image l.table l.j) l.kinds l.n l.i l.owned
