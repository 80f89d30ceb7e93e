use Rattle.matching.proofs.Looking.{Counting}
use Rattle.loaded.specs.Loaded.{program_in}
use mathlib.Core.Bool.{false}
use Rattle.matching.proofs.versions.Given as goal

abbrev pub invariant-loop-w : goal.invariant-loop-w
invariant-loop-w l = Counting (program_in l.image l.table) l.f (λ W. false) l.w l.c
