-- Question 14: how far a SKIP goes.
use Rattle.std.specs.Prelude.{List, [], ◌∷◌, ◌++◌, Bool, true, false, not, ◌||◌, ℕ, zero, suc, ◌+◌, ◌/◌, ◌%◌, take, drop, set, replicate, eqb}
use Rattle.layout.specs.Found.{Found}
use Rattle.layout.specs.Bounds.{INSTRUCTIONS}
use Rattle.layout.specs.Kinds as kind
use Rattle.layout.specs.Tests.{all}
use Rattle.layout.specs.Records.{Rec, ◌!◌, choose}
use Rattle.layout.specs.Scan.{scan}
use Rattle.layout.specs.Questions.{nothing}

-- of each place ahead, from the record here on: does the block, or a part that a SKIP passes over, end in front of it?
abbrev pub Ends : Type 0
Ends = List Bool

-- the places ahead that are kept: those of a block's instructions, and the one behind them
abbrev pub PLACES : ℕ
PLACES = INSTRUCTIONS + 1

-- nothing ends ahead
abbrev pub no_ends : Ends
no_ends = replicate PLACES false

-- the same ends, from the next record on
abbrev pub onward : Ends → Ends
onward ends = drop 1 ends ++ (false ∷ [])

-- the ends, seen from the next record: a BLOCK ends after its instructions, and the part of a SKIP after the n that follow it
unfoldable pub ends_after : Ends → Rec → Ends
ends_after ends r = choose r.kind (onward ends) (
    (kind.BLOCK, set no_ends (r.body ! 2) true) ∷
    (kind.SKIP, set (onward ends) (r.body ! 1) true) ∷ [])

-- 14: does a SKIP stay inside its block and every skipped part that it stands in? Nothing ends in front of any of the n; other records pass
unfoldable pub ends_within : Ends → Rec → Bool
ends_within ends r = not (eqb r.kind kind.SKIP) || all not (take (r.body ! 1) (onward ends))

-- 14, put to the records of an image
unfoldable pub question14 : List Rec → Found
question14 rs = scan ends_within ends_after nothing no_ends rs

-- the ends at k places that a mask stands for, as the code keeps them: its k lowest binary digits
unfoldable pub ends_of : ℕ → ℕ → Ends
ends_of zero m = []
ends_of (suc k) m = eqb (m % 2) 1 ∷ ends_of k (m / 2)
