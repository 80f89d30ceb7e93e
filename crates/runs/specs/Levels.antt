-- Request 7 of paper 02: what holds of a state whose calls all lie at or below a level.
use Rattle.std.specs.Prelude.{◌≡◌, ℕ, ◌≤◌}
use Rattle.std.proofs.Math.Option.{some}
use Rattle.program.specs.Program.{Version, Program, find_version}
use Rattle.machine.specs.declared.State.{State}
use Rattle.runs.specs.Lives.{call_at}

-- every live call is one of a version of the program that is not above the level l
unfoldable pub NoneAbove : Program → ℕ → State → Type 0
NoneAbove P l s = (k f w : ℕ) → call_at s k ≡ some (f, w) → (W : Version) × (find_version P f w ≡ some W) × (W.level ≤ l)
