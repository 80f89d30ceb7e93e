-- DISPATCH: the part of its test that looks at no value.
use Rattle.std.specs.Prelude.{List, Bool, ℕ, ◌+◌, drop, eqb, leb}
use Rattle.layout.specs.Records.{◌!◌}
use Rattle.layout.specs.Tests.{◌and◌}
use Rattle.program.specs.Program.{Argument, Version, arguments, mark_of, parameter_types}
use Rattle.rules.specs.Types.{kind_of, ownership_of, within}
use Rattle.machine.specs.Calls.{same_ownerships}
use Rattle.loaded.specs.Loaded.{few, version_in}

-- a version that a DISPATCH in a version of this level may pick, by its record: all but the kinds of the arguments
unfoldable pub admits : ℕ → ℕ → ℕ → List Argument → Version → Bool
admits level mark ret pairs W =
    leb W.level level
    and same_ownerships pairs (parameter_types W)
    and eqb (ownership_of W.return) (ownership_of ret)
    and within (kind_of W.return) (kind_of ret)
    and leb (mark_of W) mark

-- the pairs of the DISPATCH at a place, of which 8 count
abbrev pub pairs_at : List ℕ → ℕ → List Argument
pairs_at s p = arguments (drop (p + 2) s) 5 (few (s ! (p + 6)))

-- what the DISPATCH at the place p, in the version under the number own, admits
unfoldable pub admits_at : List ℕ → List ℕ → ℕ → ℕ → Version → Bool
admits_at s t own p W = admits (version_in s t own).level (s ! (p + 4)) (s ! (p + 5)) (pairs_at s p) W
