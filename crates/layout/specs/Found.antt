-- What a search along an image finds.
use Rattle.std.specs.Prelude.{Option, ℕ}

-- the offset of what was looked for, if it is there
abbrev pub Found : Type 0
Found = Option ℕ
