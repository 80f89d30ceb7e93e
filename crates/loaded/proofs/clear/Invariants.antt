-- `loaded::clear`: the numbers before k are free.
use mathlib.Core.Path.{◌≡◌}
use Prim.Native.Nat.{ℕ, ◌<◌}
use lib.ListN.{length}
use Rattle.layout.specs.Records.{◌!◌}
use Rattle.loaded.proofs.clear.Given as goal

abbrev pub invariant-loop-k : goal.invariant-loop-k
invariant-loop-k l = (length l.table ≡ length l.initial.table) × ((j : ℕ) → j < l.k → l.table ! j ≡ 0)
