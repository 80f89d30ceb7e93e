-- Versions and programs that differ at most in where their records stand.
use Rattle.std.specs.Prelude.{◌≡◌, map, ℕ}
use Rattle.std.proofs.Math.Option.{Option, none, some}
use Rattle.program.specs.Program.{Line, Block, Version, Program, find_version}

-- an instruction without its offset
abbrev pub bare_line : Line → Line
bare_line l = record { at = 0; does = l.does }

-- a block without offsets
abbrev pub bare_block : Block → Block
bare_block b = record { at = 0; mark = b.mark; result = b.result; code = map bare_line b.code }

-- a version without offsets
abbrev pub bare : Version → Version
bare v = record { at = 0; function = v.function; version = v.version; parameters = v.parameters; types = v.types; return = v.return; level = v.level; blocks = map bare_block v.blocks }

-- what a look-up found, without offsets
unfoldable pub bare_of : Option Version → Option Version
bare_of none = none
bare_of (some v) = some (bare v)

-- the same version, but for offsets
unfoldable pub Alike : Version → Version → Type 0
Alike v w = bare v ≡ bare w

-- the same versions under the same numbers, but for offsets
unfoldable pub AllAlike : Program → Program → Type 0
AllAlike P Q = (f w : ℕ) → bare_of (find_version P f w) ≡ bare_of (find_version Q f w)
