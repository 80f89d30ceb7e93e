-- The bytes of a version, by offsets.
use Rattle.std.specs.Prelude.{List, ℕ, length}
use Rattle.program.specs.Places.{view_at, past}
use Rattle.machine.specs.Changes.{start_of, slice}

-- where the next version from the offset p on stands, or the image's end
unfoldable pub end_from : List ℕ → ℕ → ℕ
end_from s p = start_of (length s) (view_at s p).versions

-- where the version at v ends
unfoldable pub end_at : List ℕ → ℕ → ℕ
end_at s v = end_from s (past s v)

-- the bytes of the version at v
unfoldable pub part_at : List ℕ → ℕ → List ℕ
part_at s v = slice s v (end_at s v)
