use Prim.Native.Nat.{◌+◌, ◌-◌, ◌≤◌}
use lib.ListN.{length, take}
use Rattle.program.specs.Places.{view_at}
use mathlib.Core.Path.{◌≡◌}
use Rattle.flow.proofs.ways.lines.Given as goal

abbrev pub invariant-loop-n : goal.invariant-loop-n
invariant-loop-n l = (length (take 48 (view_at l.image l.from).code) ≡ l.n + length (take (48 - l.n) (view_at l.image l.p).code)) × (l.n ≤ 48)
