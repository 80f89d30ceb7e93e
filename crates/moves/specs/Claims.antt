-- 02, 6: what is promised of a move that was written: the statements alone.
use Rattle.std.specs.Prelude.{◌≡◌, ◌≢◌, List, [], ◌∷◌, cond, ℕ, ◌+◌, ◌*◌, ◌≤◌, ◌<◌, ℤ, length, eqb, None, Ok}
use Rattle.layout.specs.Bounds.{IMAGE}
use Rattle.layout.specs.Records.{Rec, ◌!◌, records}
use Rattle.layout.specs.Forms.{literal_kind, moved, other}
use Rattle.layout.specs.declared.Form.{Form}
use Rattle.program.specs.Program.{program_by}
use Rattle.checker.specs.Verdicts.{verdict_in}
use Rattle.checker.specs.Reports.{report_in}
use Rattle.machine.specs.Begin.{run_of}
use Rattle.machine.specs.declared.Answer.{Answer}
use Rattle.machine.specs.declared.End.{End}
use Rattle.runs.specs.Alike.{AllAlike}
use Rattle.runs.specs.Wider.{run_before}
use Rattle.moves.specs.Moves.{move_of, question17}

-- the image that a move writes
abbrev pub result : Form → List ℕ → List ℕ
result form s = moved form (records s)

-- an image of bytes whose move is written, as m bytes
unfoldable pub Moves : Form → List ℕ → ℕ → ℕ → Type 0
Moves form s places m = ((i : ℕ) → s ! i < 256) × (move_of form s places ≡ Ok m)

-- what is written is the result, of bytes, no longer than an image or the buffer
unfoldable pub MovedWhole : Type 0
MovedWhole = (form : Form) (s : List ℕ) (places m : ℕ) → Moves form s places m → (m ≡ length (result form s)) × (m ≤ IMAGE) × (m ≤ places) × ((i : ℕ) → result form s ! i < 256)

-- how many of the records are literals of a form
unfoldable pub literals : Form → List Rec → ℕ
literals form [] = 0
literals form (r ∷ rs) = cond (eqb r.kind (literal_kind form)) 1 0 + literals form rs

-- a narrowed image is 4 bytes shorter for each literal: it is no longer than its source
unfoldable pub NarrowedLength : Type 0
NarrowedLength = (s : List ℕ) (places m : ℕ) → Moves Form.Wide s places m → (m + 4 * literals Form.Wide (records s) ≡ length s) × (m ≤ length s)

-- so 17 refuses no accepted image that is narrowed into a buffer as long as the image
unfoldable pub NarrowedFits : Type 0
NarrowedFits =
    (s : List ℕ) → ((i : ℕ) → s ! i < 256) → (n : ℕ) → verdict_in Form.Wide s ≡ Ok n → (places : ℕ) → length s ≤ places → question17 (length (result Form.Wide s)) places ≡ None

-- a widened image is 4 bytes longer for each literal: it has at most 13 bytes for each 9 of its source
unfoldable pub WidenedLength : Type 0
WidenedLength = (s : List ℕ) (places m : ℕ) → Moves Form.Narrow s places m → (m ≡ length s + 4 * literals Form.Narrow (records s)) × (9 * m ≤ 13 * length s)

-- it is accepted by the other form's questions, with as many versions
unfoldable pub MovedAccepted : Type 0
MovedAccepted = (form : Form) (s : List ℕ) (places m : ℕ) → Moves form s places m → (n : ℕ) × (verdict_in form s ≡ Ok n) × (verdict_in (other form) (result form s) ≡ Ok n)

-- `check` prints the same of both, the four counts of each version included
unfoldable pub SameReport : Type 0
SameReport = (form : Form) (s : List ℕ) (places m : ℕ) → Moves form s places m → report_in (other form) (result form s) ≡ report_in form s

-- there and back gives the same bytes, from both sides: the way back is written wherever the image itself has room
unfoldable pub ThereAndBack : Type 0
ThereAndBack = (form : Form) (s : List ℕ) (places m : ℕ) → Moves form s places m → (result (other form) (result form s) ≡ s)
    × ((room : ℕ) → length s ≤ room → move_of (other form) (result form s) room ≡ Ok (length s))

-- the image of 32 bits of such a pair, and that of 64
unfoldable pub narrow_of : Form → List ℕ → List ℕ
narrow_of Form.Narrow s = s
narrow_of Form.Wide s = result Form.Wide s

unfoldable pub wide_of : Form → List ℕ → List ℕ
wide_of Form.Narrow s = result Form.Narrow s
wide_of Form.Wide s = s

-- runs agree, from both sides: one that in the old range did not end in UNDEF has the same answer, steps, state and buffer
unfoldable pub RunsAgree : Type 0
RunsAgree =
    (form : Form) (s : List ℕ) (places m : ℕ) → Moves form s places m → (level f v : ℕ) (words : List ℤ) (budget : ℕ) (buffer : List ℤ)
    → (run_before (narrow_of form s) level f v words budget buffer).answer ≢ Answer.Ended End.Undef
    → run_of (wide_of form s) level f v words budget buffer ≡ run_before (narrow_of form s) level f v words budget buffer

-- their programs are the same but for offsets, so that `WiderStep` and `WiderBudget` speak of every later step and budget too
unfoldable pub MovedAlike : Type 0
MovedAlike =
    (form : Form) (s : List ℕ) (places m : ℕ) → Moves form s places m → AllAlike (program_by Form.Narrow (records (narrow_of form s))) (program_by Form.Wide (records (wide_of form s)))
