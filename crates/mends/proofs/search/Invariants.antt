-- `mends::search`: the loop goes along the records; the places of the VERSIONs before do not mend.
use lib.ListN.{length}
use Prim.Native.Nat.{◌-◌}
use Rattle.mends.proofs.Parts.{Searching}
use Rattle.mends.proofs.search.Given as goal

abbrev pub invariant-loop-p : goal.invariant-loop-p
invariant-loop-p l = Searching l.initial.image l.image l.p

abbrev pub decreases-loop-p : goal.decreases-loop-p
decreases-loop-p l = length l.initial.image - l.p
