-- What an iterator along the records of an image has left.
use Rattle.std.specs.Prelude.{List, ℕ, map}
use Rattle.layout.specs.Records.{Rec, rest}
use Rattle.layout.specs.declared.records.Spot.{Spot}
use Rattle.layout.specs.declared.records.Records.{Records}

-- where a record stands and how long it is
abbrev pub spot : Rec → Spot
spot r = record { at = r.at; size = r.size }

-- where the records from the offset p on stand
unfoldable pub spots : List ℕ → ℕ → List Spot
spots s p = map spot (rest s p)

-- what is left
abbrev pub left : Records → List Spot
left r = spots r.image.now r.at
