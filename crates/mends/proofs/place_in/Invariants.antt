-- `mends::place_in`: the loop goes along the places; those before do not mend.
use Prim.Native.Nat.{◌-◌}
use Rattle.mends.proofs.Parts.{Placing}
use Rattle.mends.proofs.place_in.Given as goal

abbrev pub invariant-loop-i : goal.invariant-loop-i
invariant-loop-i l = Placing l.initial.image l.image l.from l.n l.i
