-- `changes::is_live`: the loop has met no frame of the version below `k`.
use Prim.Native.Nat.{ℕ, ◌+◌, ◌*◌, ◌<◌, ◌≤◌}
use Rattle.layout.specs.Records.{◌!◌}
use Rattle.layout.specs.Tests.{◌and◌}
use lib.Dec.{eqb}
use mathlib.Core.Bool.{false}
use mathlib.Core.Path.{◌≡◌}
use Rattle.changes.proofs.is_live.Given as goal

abbrev pub invariant-loop-k : goal.invariant-loop-k
invariant-loop-k l = (l.k ≤ l.live) × ((j : ℕ) → j < l.k → (eqb (l.bytes ! (32 * j + 24)) l.f and eqb (l.bytes ! (32 * j + 25)) l.w) ≡ false)
