-- `pools::most`: what is added up and what is left count against the run.
use mathlib.Core.Path.{◌≡◌}
use Prim.Native.Nat.{◌+◌, ◌*◌, ◌≤◌}
use lib.ListN.{drop}
use Rattle.pools.specs.Shares.{shares}
use Rattle.pools.proofs.most.Given as goal

abbrev pub invariant-loop-j : goal.invariant-loop-j
invariant-loop-j l = (l.j ≤ 8) × (l.against ≤ 255 * l.j) × (l.against + shares l.j l.i (drop l.j l.reserves) (drop l.j l.has) ≡ shares 0 l.i l.reserves l.has)
