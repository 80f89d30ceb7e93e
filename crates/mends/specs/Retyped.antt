-- A program with one register type byte changed, by its place in the image.
use Rattle.std.specs.Prelude.{List, map, Bool, cond, ℕ, ◌+◌, ◌-◌, length, set, ltb, leb}
use Rattle.layout.specs.Tests.{◌and◌}
use Rattle.program.specs.Program.{Version, Program}

-- the version with other register types
abbrev pub with_types : Version → List ℕ → Version
with_types v ts = record { at = v.at; function = v.function; version = v.version; parameters = v.parameters; types = ts; return = v.return; level = v.level; blocks = v.blocks }

-- is the place p one of the first n register type bytes of the version?
unfoldable pub within : ℕ → ℕ → Version → Bool
within p n v = leb (v.at + 10) p and ltb p (v.at + 10 + n)

-- the version with the byte at p changed to x
unfoldable pub retype_one : ℕ → ℕ → Version → Version
retype_one p x v = cond (within p (length v.types) v) (with_types v (set v.types (p - (v.at + 10)) x)) v

-- the program with the byte at p changed to x
abbrev pub retype : ℕ → ℕ → Program → Program
retype p x P = map (retype_one p x) P
