-- `bounds::counts::count`: the loop goes along the records of a version, and what is counted and what lies ahead come to the same.
use Rattle.bounds.specs.Counts.{Counted}
use Prim.Native.Nat.{◌-◌}
use lib.ListN.{length}
use Rattle.bounds.proofs.counts.count.Given as goal

abbrev pub invariant-loop-p : goal.invariant-loop-p
invariant-loop-p l = Counted l.tabled.image.now l.known l.own l.from l.steps → Counted l.tabled.image.now l.known l.own l.p l.sum

abbrev pub decreases-loop-p : goal.decreases-loop-p
decreases-loop-p l = length l.tabled.image.now - l.p
