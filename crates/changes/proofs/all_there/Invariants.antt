-- `changes::all_there`: the loop has found the versions of all frames below `k`.
use Prim.Native.Nat.{ℕ, ◌+◌, ◌*◌, ◌<◌, ◌≤◌}
use Rattle.layout.specs.Records.{◌!◌}
use Rattle.layout.specs.Tests.{found}
use Rattle.machine.specs.Begin.{program_of}
use Rattle.program.specs.Program.{Version, find_version}
use mathlib.Core.Bool.{true}
use mathlib.Core.Path.{◌≡◌}
use Rattle.changes.proofs.all_there.Given as goal

abbrev pub invariant-loop-k : goal.invariant-loop-k
invariant-loop-k l = (l.k ≤ l.live) × ((j : ℕ) → j < l.k → found (find_version (program_of l.new.image.now) (l.bytes ! (32 * j + 24)) (l.bytes ! (32 * j + 25))) (λ (v : Version). true) ≡ true)
