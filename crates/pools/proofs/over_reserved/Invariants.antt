-- `pools::over_reserved`: what is added up and what is left make the sum.
use mathlib.Core.Path.{◌≡◌}
use Prim.Native.Nat.{◌+◌, ◌*◌, ◌≤◌}
use lib.ListN.{drop}
use Rattle.machine.specs.Pools.{sum}
use Rattle.pools.proofs.over_reserved.Given as goal

abbrev pub invariant-loop-reserve : goal.invariant-loop-reserve
invariant-loop-reserve l = (l.reserve-index ≤ 8) × (l.total ≤ 255 * l.reserve-index) × (l.total + sum (drop l.reserve-index l.reserves) ≡ sum l.reserves)
