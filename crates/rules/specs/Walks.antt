-- What the walk of a block and the walk of an instruction find.
use Rattle.std.specs.Prelude.{List, [], cond, ℕ, take, get_or, ltb}
use Rattle.std.proofs.Math.Option.{Option, none}
use Rattle.program.specs.Program.{Instr, Line, Version, Program}
use Rattle.rules.specs.Actions.{Action, Touch, reads◌empties◌assigns◌, enters◌assigns◌, reads◌skips◌, touch, action_of, skip_of, Walk, walk, start, actions}

-- what the block b of a version does
abbrev pub block_action : Program → Version → ℕ → Option Action
block_action P v b = get_or (actions P 0 v.blocks) b none

-- what a PROM of the block b enters: a block above it
abbrev pub entered : Program → Version → ℕ → ℕ → Option Action
entered P v b block = cond (ltb b block) (block_action P v block) none

-- what an instruction of the block b does
abbrev pub acts : Program → Version → ℕ → Instr → Option Action
acts P v b i = action_of (entered P v b) (touch P i)

-- what an instruction may pass over
abbrev pub skips_of : Program → Instr → Option ℕ
skips_of P i = skip_of (touch P i)

-- the walk of the block b of a version at its instruction i
abbrev pub walk_to : Program → Version → ℕ → List Line → ℕ → Walk
walk_to P v b code i = walk (skips_of P) (acts P v b) (start code) (take i code)

-- the registers that an instruction empties by itself
unfoldable pub freed : Touch → List ℕ
freed (reads rs empties us assigns ds) = us
freed (enters block assigns ds) = []
freed (reads rs skips n) = []
