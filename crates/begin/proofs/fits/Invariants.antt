-- `begin::fits`: before each parameter, there are arguments where those that are left are there.
use Prim.Native.Nat.{◌≤◌}
use lib.ListN.{length}
use Rattle.loaded.specs.Loaded.{version_in}
use Rattle.begin.proofs.Filling.{Going}
use Rattle.begin.proofs.fits.Given as goal

abbrev pub invariant-loop-i : goal.invariant-loop-i
invariant-loop-i l = (l.p ≤ length l.words) × (l.i ≤ l.n) × Going (version_in l.image l.table l.k) l.words l.n l.i l.p
