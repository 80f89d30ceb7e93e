-- How the table of an image is filled, record by record.
use Rattle.std.specs.Prelude.{List, [], ◌∷◌, cond, ℕ, ◌+◌, ◌*◌, ◌/◌, ◌%◌, eqb}
use Rattle.std.proofs.lemmas.List.Edits.{sets}
use Rattle.layout.specs.Kinds as kind
use Rattle.layout.specs.Records.{Rec, ◌!◌}
use Rattle.loaded.specs.Loaded.{BLOCK-ENTRIES, record_at}
use Rattle.loaded.specs.declared.Cursor.{Cursor}

-- a number as two bytes, low byte first
abbrev pub pair_of : ℕ → List ℕ
pair_of x = x % 256 ∷ x / 256 ∷ []

-- the table with x as its entry k
unfoldable pub pointed : List ℕ → ℕ → ℕ → List ℕ
pointed t k x = sets t (2 * k) (pair_of x)

-- the record of the BLOCK or instruction at a place: its kind, the five bytes behind it, its place
abbrev pub record_of : List ℕ → ℕ → List ℕ
record_of s p = s ! p ∷ s ! (p + 2) ∷ s ! (p + 3) ∷ s ! (p + 4) ∷ s ! (p + 5) ∷ s ! (p + 6) ∷ pair_of p

-- the table with it as its record i
unfoldable pub recorded : List ℕ → List ℕ → ℕ → ℕ → List ℕ
recorded s t i p = sets t (record_at i) (record_of s p)

-- the number of a VERSION
abbrev pub number_of : Rec → ℕ
number_of r = 4 * r.body ! 0 + r.body ! 1

-- the place of a record
abbrev pub place_of : Rec → ℕ
place_of r = r.at + 2

-- the table behind a record of the image: a VERSION is entered under its number, a BLOCK as the next of its version, and its record and those of instructions one behind the other
unfoldable pub entered : List ℕ → Rec → Cursor → List ℕ → List ℕ
entered s r c t =
    cond (eqb r.kind kind.VERSION) (pointed t (number_of r) (place_of r))
    (cond (eqb r.kind kind.BLOCK) (recorded s (pointed t c.block c.next) c.next (place_of r))
    (cond (eqb r.kind kind.LEVEL) t (recorded s t c.next (place_of r))))

-- the next entry and record behind it
unfoldable pub moved_on : Rec → Cursor → Cursor
moved_on r c =
    cond (eqb r.kind kind.VERSION) (record { block = BLOCK-ENTRIES + 8 * number_of r; next = c.next })
    (cond (eqb r.kind kind.BLOCK) (record { block = c.block + 1; next = c.next + 1 })
    (cond (eqb r.kind kind.LEVEL) c (record { block = c.block; next = c.next + 1 })))

-- the table behind these records of the image, up to one that is not whole
unfoldable pub filled : List ℕ → List Rec → Cursor → List ℕ → List ℕ
filled s [] c t = t
filled s (r ∷ rs) c t = cond (eqb r.size 0) t (filled s rs (moved_on r c) (entered s r c t))

-- where filling begins
abbrev pub beginning : Cursor
beginning = record { block = BLOCK-ENTRIES; next = 0 }
