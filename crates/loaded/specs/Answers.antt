-- What the answers of look-ups stand for.
use Rattle.std.specs.Prelude.{List, ℕ, None, Option as Optional, Some}
use Rattle.std.proofs.Math.Option.{Option, none, some}
use Rattle.program.specs.Program.{Block, Version}
use Rattle.machine.specs.Steps.{Position, instruction, block_end, outside}
use Rattle.loaded.specs.Loaded.{block_in, instr_in, version_in}
use Rattle.loaded.specs.declared.Next.{Next}

-- the number under which a version stands, 4 × function + version, if there is one
abbrev pub Number : Type 0
Number = Optional ℕ

-- the number of a block's record, if there is such a block
abbrev pub BlockAt : Type 0
BlockAt = Optional ℕ

-- the version of a number
unfoldable pub version_of : List ℕ → List ℕ → Number → Option Version
version_of s t (Some k) = some (version_in s t k)
version_of s t None = none

-- the block of a record
unfoldable pub block_of : List ℕ → List ℕ → BlockAt → Option Block
block_of s t (Some i) = some (block_in s t i)
block_of s t None = none

-- what is next
unfoldable pub next_of : List ℕ → List ℕ → Optional Next → Position
next_of s t (Some (Next.Line i)) = instruction (instr_in s t i)
next_of s t (Some Next.End) = block_end
next_of s t None = outside
