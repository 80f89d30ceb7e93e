-- What the parts of the search for a mend state to each other.
use Rattle.std.specs.Prelude.{◌≡◌, ◌⊎◌, List, [], ◌∷◌, Bool, true, false, ℕ, set, None, Err}
use Rattle.layout.specs.Records.{records, choose}
use Rattle.program.specs.Program.{Program, program}
use Rattle.program.specs.Search.{Question, first}
use Rattle.program.specs.Places.{asked, numbers, table_of}
use Rattle.program.specs.declared.Here.{Here}
use Rattle.rules.specs.Questions.{question6, question8, question9}
use Rattle.rules.specs.Flows.{question10}
use Rattle.checker.specs.Verdicts.{verdict_of, refused}
use Rattle.mends.specs.Mends.{mendable, mends_by, places}

-- the values that can mend: the type bytes, lowest first
abbrev pub TYPES : List ℕ
TYPES = 0 ∷ 1 ∷ 2 ∷ 3 ∷ 4 ∷ 5 ∷ 19 ∷ 35 ∷ []

-- 6, 8, 9 or 10, as a question to the program
unfoldable pub question_by : ℕ → Program → Question
question_by q P = choose q (question10 P) ((6, question6) ∷ (8, question8 P) ∷ (9, question9 P) ∷ [])

-- p is among these
unfoldable pub Among : ℕ → List ℕ → Type 0
Among p [] = ⊥
Among p (q ∷ ps) = (p ≡ q) ⊎ Among p ps

-- an image that passes the question q passes what it asks of the record at r, where a pass stands at h
unfoldable pub Passing : ℕ → Here → ℕ → List ℕ → Type 0
Passing q h r s = let P = program (records s) in first (question_by q P) P ≡ None → asked (question_by q P) s h r ≡ true

-- so it is after each change of a register type byte
unfoldable pub Told : ℕ → Here → ℕ → List ℕ → Type 0
Told q h r s = (p x : ℕ) → Among p (places (program (records s))) → Passing q h r (set s p x)

-- an image that is refused by q, which may be mended
pub record RefusedBy (s : List ℕ) (q r : ℕ) : Type 0 where
  pub may : mendable q ≡ true
  pub refused : verdict_of s ≡ Err (refused q r)

-- it is refused at the record at r, where a pass stands at h; t is its table of versions
pub record Failing (s t : List ℕ) (q r : ℕ) (h : Here) : Type 0 where
  pub refusal : RefusedBy s q r
  pub table : t ≡ table_of s
  pub told : Told q h r s

-- the n bytes from `from` on are register types of the image
unfoldable pub Owned : List ℕ → ℕ → ℕ → Type 0
Owned s from n = (p : ℕ) → Among p (numbers from n) → Among p (places (program (records s)))

-- whether a change of the byte at p can help: where it is said that it cannot, no value mends
unfoldable pub Helps : Bool → List ℕ → ℕ → Type 0
Helps true s p = Unit {0}
Helps false s p = (x : ℕ) → mends_by s p x ≡ false
