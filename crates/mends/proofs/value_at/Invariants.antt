-- `mends::value_at`: where one value tells that none helps, nothing; else the loop goes along the type bytes, and those before do not mend.
use Prim.Native.Nat.{◌-◌}
use Rattle.mends.proofs.Parts.{Valuing}
use Rattle.mends.proofs.value_at.Given as goal

abbrev pub invariant-loop-i : goal.invariant-loop-i
invariant-loop-i l = Valuing l.initial.image l.image l.p l.i
