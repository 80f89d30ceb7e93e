-- Where a state stands, in numbers that people read in a text of its image.
use Rattle.std.specs.Prelude.{◌≡◌, List, [], ◌∷◌, ℕ, zero, suc, take, Option, None, Some}
use Rattle.layout.specs.Bounds.{INSTRUCTIONS}
use Rattle.program.specs.Program.{Block, Line, Program, find_version}
use Rattle.machine.specs.Runs.{step_of}
use Rattle.machine.specs.Steps.{Here, Position, advance, here, position, position_of, instruction, block_end, outside}
use Rattle.machine.specs.Try.{Try, got, stuck, stop, ◌>>=◌, at, or_stuck}
use Rattle.machine.specs.declared.End.{End}
use Rattle.machine.specs.declared.Said.{Said}
use Rattle.machine.specs.declared.State.{State}
use Rattle.machine.specs.declared.Status.{Status}
use Rattle.whereabouts.specs.declared.Where.{Where}

-- the offset of the instruction n among these; 0 where there is none
unfoldable pub offset_of : List Line → ℕ → ℕ
offset_of [] n = 0
offset_of (l ∷ ls) zero = l.at
offset_of (l ∷ ls) (suc n) = offset_of ls n

-- by where a run stands in its block: the offset is that of the instruction, at the block's end that of the block
unfoldable pub where_at : Here → Position → Option Where
where_at h (instruction i) = Some (Where.Instruction h.frame.function h.frame.version h.activation.block h.activation.next (offset_of h.block.code h.activation.next))
where_at h block_end = Some (Where.BlockEnd h.frame.function h.frame.version h.activation.block h.activation.next h.block.at)
where_at h outside = None

-- by where it stands at all
unfoldable pub where_from : Try Here → Option Where
where_from (got h) = where_at h (position_of h)
where_from stuck = None
where_from (stop e) = None

-- where the state s stands, ended or not
unfoldable pub where_of : Program → State → Option Where
where_of P s = where_from (here P s)

-- A step that ends with UNDEF or a stop leaves the state where it stood: at the instruction or block end that made it.
unfoldable pub StandsStill : Type 0
StandsStill = (P : Program) (s : State) (e : End) → s.status ≡ Status.Running → advance P s ≡ stop e → ((step_of P s).said ≡ Said.Ended e) × (where_of P (step_of P s).state ≡ where_of P s)

-- ---- by numbers

-- the block b of the version w of the function f
unfoldable pub block_by : Program → ℕ → ℕ → ℕ → Try Block
block_by P f w b = do
  W ← or_stuck (find_version P f w)
  at W.blocks b

-- where what is next in that block stands, by its number x
unfoldable pub spot_in : ℕ → ℕ → ℕ → ℕ → Block → Position → Option Where
spot_in f w b x B (instruction i) = Some (Where.Instruction f w b x (offset_of B.code x))
spot_in f w b x B block_end = Some (Where.BlockEnd f w b x B.at)
spot_in f w b x B outside = None

-- by the block, where there is one
unfoldable pub spot_from : ℕ → ℕ → ℕ → ℕ → Try Block → Option Where
spot_from f w b x (got B) = spot_in f w b x B (position (take INSTRUCTIONS B.code) x)
spot_from f w b x stuck = None
spot_from f w b x (stop e) = None

-- where what is next stands in the block b of the version w of the function f
unfoldable pub where_by : Program → ℕ → ℕ → ℕ → ℕ → Option Where
where_by P f w b x = spot_from f w b x (block_by P f w b)
