-- `loaded::dispatch::same_ownerships`: place by place.
use Prim.Native.Nat.{ℕ, ◌+◌, ◌*◌, ◌/◌, ◌≤◌, ◌<◌}
use mathlib.Core.Path.{◌≡◌}
use Rattle.layout.specs.Records.{◌!◌}
use Rattle.loaded.specs.Loaded.{version_in}
use Rattle.loaded.proofs.dispatch.same_ownerships.Given as goal

abbrev pub invariant-loop-i : goal.invariant-loop-i
invariant-loop-i l = (l.i ≤ l.n) × ((j : ℕ) → j < l.i → l.image ! (l.p + 7 + 2 * j) / 16 ≡ (version_in l.image l.table l.k).types ! j / 16)
