-- Questions put to an image: a no gives the offset of the first record that fails.
use Rattle.std.specs.Prelude.{List, [], ◌∷◌, ℕ, Bool, cond, ltb, eqb, length, None, Some, Option, Result, Ok, Err, ◌≡◌, ◌<◌}
use Rattle.layout.specs.Found.{Found}
use Rattle.layout.specs.Tests.{◌and◌}
use Rattle.layout.specs.Records.{Rec, rec_at, size_at}
use Rattle.layout.specs.declared.records.Spot.{Spot}

-- A question to the records: `ok` judges a record by what those before it left, `next` says what it leaves, `end` judges the end. A record that is not whole fails.
unfoldable pub scan : {S : Type 0} → (S → Rec → Bool) → (S → Rec → S) → (S → Found) → S → List Rec → Found
scan ok next end st [] = end st
scan ok next end st (r ∷ rs) = cond (ltb 0 r.size and ok st r) (scan ok next end (next st r) rs) (Some r.at)

-- what more makes of what a turn left; the offset p where it left nothing
unfoldable pub continued : {S : Type 0} → ℕ → (S → Result S ℕ) → Option S → Result S ℕ
continued p more None = Err p
continued p more (Some st) = more st

-- Along the records: each turn says what a record leaves of what those before it left, or none, where it fails; one that is not whole fails.
unfoldable pub along : {S : Type 0} → (S → Rec → Option S) → S → List Rec → Result S ℕ
along turn st [] = Ok st
along turn st (r ∷ rs) = cond (eqb r.size 0) (Err r.at) (continued r.at (λ left. along turn left rs) (turn st r))

-- a whole record of an image stands here
pub record Stands (s : List ℕ) (at : Spot) : Type 0 where
  pub inside : at.at < length s
  pub size : at.size ≡ size_at s at.at
  pub whole : at.size ≡ 0 → ⊥

-- calls of the code answer as the turn does, at each whole record of an image
abbrev pub Turns : {S : Type 0} → (S → Spot → Option S → Type 0) → (S → Rec → Option S) → List ℕ → Type 0
Turns {S} called turn s = (st : S) (at : Spot) (r : Option S) → Stands s at → called st at r → r ≡ turn st (rec_at s at.at)
