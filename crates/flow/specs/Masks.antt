-- Actions as the code has them: a mask of 16 registers for each set.
use Rattle.std.proofs.Math.Option.{Option, none, some}
use Rattle.std.specs.Prelude.{ℕ, None, Option as Optional, Some}
use Rattle.layout.specs.Bounds.{REGISTERS}
use Rattle.sets.specs.Sets.{set_of}
use Rattle.program.specs.Program.{Instr, Program}
use Rattle.rules.specs.Actions.{Action, touch, action_of}
use Rattle.flow.specs.declared.Action.{Action as Masks}

-- the action that four masks are: read, assigned, emptied, captured
abbrev pub masked : ℕ → ℕ → ℕ → ℕ → Action
masked r w u c = record { R = set_of REGISTERS r; W = set_of REGISTERS w; U = set_of REGISTERS u; C = set_of REGISTERS c }

-- the action that the masks of the code are
abbrev pub act : Masks → Action
act a = masked a.reads a.assigns a.empties a.captures

-- what is done one after the other, if it is allowed
abbrev pub Flowed : Type 0
Flowed = Optional Masks

-- what was done, where all of it is allowed
unfoldable pub flowed : Flowed → Option Action
flowed (Some a) = some (act a)
flowed None = none

-- what an instruction does that enters no block
abbrev pub alone : Program → Instr → Option Action
alone P i = action_of (λ block. none) (touch P i)
