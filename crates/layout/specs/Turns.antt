-- Questions 4 and 5 as their code goes: what it keeps and what it says to a record.
use Rattle.std.specs.Prelude.{List, Bool, true, false, cond, ℕ, length, ltb, None, Option as Optional, Some}
use Rattle.std.proofs.Math.Option.{Option, none, some}
use Rattle.layout.specs.Found.{Found}
use Rattle.layout.specs.Records.{Rec, rec_at}
use Rattle.layout.specs.declared.Due.{Due}

-- the record at an offset that the code keeps, if it keeps one
unfoldable pub last_at : List ℕ → Found → Option Rec
last_at s None = none
last_at s (Some p) = some (rec_at s p)

-- what question 4 says to a record: what is due after it, if it may stand there
abbrev pub Turn : Type 0
Turn = Optional Due

-- what question 4 says to a record, as the code says it
abbrev pub turn_of : Bool → Due → Turn
turn_of ok due = cond ok (Some due) None
