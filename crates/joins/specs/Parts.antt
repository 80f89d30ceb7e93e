-- What the parts of a join state to each other.
use Rattle.std.specs.Prelude.{◌≡◌, List, [], ◌∷◌, ℕ, ◌+◌, ◌≤◌, ◌<◌, length, None}
use Rattle.layout.specs.Bounds.{IMAGE}
use Rattle.layout.specs.Kinds as kind
use Rattle.layout.specs.Records.{Rec, ◌!◌, size_at, kind_at, body_at, records, choose}
use Rattle.layout.specs.Forms.{record_bytes}
use Rattle.layout.specs.Questions.{question2}
use Rattle.joins.specs.Joins.{raised}

-- each is a byte
abbrev pub Bytes : List ℕ → Type 0
Bytes s = (i : ℕ) → s ! i < 256

-- the function of a record, where it has one, stands in its body, and raised by k it is a byte
pub record Raisable (k n : ℕ) (b : List ℕ) : Type 0 where
  pub version : n ≡ kind.VERSION → (0 < length b) × (k + b ! 0 < 256)
  pub call : n ≡ kind.CALL → (1 < length b) × (k + b ! 1 < 256)
  pub dispatch : n ≡ kind.DISPATCH → (1 < length b) × (k + b ! 1 < 256)

-- so it is of all these records
unfoldable pub AllRaisable : ℕ → List Rec → Type 0
AllRaisable k [] = Unit {0}
AllRaisable k (r ∷ rs) = Raisable k r.kind r.body × AllRaisable k rs

-- an image, not too long, whose records are whole and can be raised by k
pub record Ready (k : ℕ) (s : List ℕ) : Type 0 where
  pub bytes : Bytes s
  pub short : length s ≤ IMAGE
  pub whole : question2 (records s) ≡ None
  pub raisable : AllRaisable k (records s)

-- such a record stands at p
pub record Stands (k : ℕ) (s : List ℕ) (p : ℕ) : Type 0 where
  pub bytes : Bytes s
  pub inside : p < length s
  pub whole : size_at s p ≡ 0 → ⊥
  pub raisable : Raisable k (kind_at s p) (body_at s p)

-- the bytes that the record at p becomes
unfoldable pub raised_at : ℕ → List ℕ → ℕ → List ℕ
raised_at k s p = record_bytes (kind_at s p) (raised k (kind_at s p) (body_at s p))

-- where the function of a record of a kind stands, from the record's begin on; 0 where it has none
unfoldable pub function_place : ℕ → ℕ
function_place n = choose n 0 ((kind.VERSION, 4) ∷ (kind.CALL, 5) ∷ (kind.DISPATCH, 5) ∷ [])
