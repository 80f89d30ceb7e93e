-- What a place of a live call holds.
use Rattle.std.specs.Prelude.{cond, ℕ, ◌-◌, ltb}
use Rattle.layout.specs.Bounds.{REGISTERS}
use Rattle.machine.specs.States.{live_frames, named, register}
use Rattle.machine.specs.Try.{Try, ◌>>=◌, at}
use Rattle.machine.specs.declared.Frame.{Frame}
use Rattle.machine.specs.declared.State.{State}
use Rattle.machine.specs.declared.Value.{Value}

-- registers are the places 0 to 15 of a frame, names the places behind them
unfoldable pub place_of : Frame → ℕ → Try Value
place_of f i = cond (ltb i REGISTERS) (register f i) (named f (i - REGISTERS))

-- the place i of the live call k, the oldest being 0; stuck where there is none
unfoldable pub look_of : State → ℕ → ℕ → Try Value
look_of s k i = do
  f ← at (live_frames s) k
  place_of f i
