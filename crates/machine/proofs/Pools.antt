-- 02, request 10: a start that is refused leaves the pool.
use Rattle.std.specs.Prelude.{Err}
use mathlib.Core.Path.{◌≡◌, refl}
use Prim.Native.Nat.{ℕ}
use Rattle.machine.specs.Pools.{pool_begun_as}
use Rattle.machine.specs.declared.Begun.{Begun}
use Rattle.machine.specs.declared.Pool.{Pool}
use Rattle.machine.specs.Denials.{denied}

pub refused-leaves : (p : Pool) (i : ℕ) (b : Begun) (q o : ℕ) → (pool_begun_as p i b (Err (denied q o))).pool ≡ p
unfolding pool_begun_as
refused-leaves p i b q o = refl
