-- 02, 6: an image moved to the other form, into a lent buffer.
use Rattle.std.specs.Prelude.{List, Bool, cond, not, ◌||◌, ℕ, ℤ, pos, negsuc, length, eqb, ltb, leb, None, Some, Err, Ok, Result}
use Rattle.layout.specs.Found.{Found}
use Rattle.layout.specs.Bounds.{IMAGE}
use Rattle.layout.specs.Tests.{◌and◌}
use Rattle.layout.specs.Records.{Rec, records}
use Rattle.layout.specs.Scan.{scan}
use Rattle.layout.specs.Questions.{same, nothing}
use Rattle.layout.specs.Forms.{literal_kind, moved}
use Rattle.layout.specs.declared.Form.{Form}
use Rattle.writer.specs.Text.{placed}
use Rattle.program.specs.Program.{number_in}
use Rattle.checker.specs.Verdicts.{ask, verdict_in, Verdict}
use Rattle.machine.specs.Values.{NARROW-RANGE}
use Rattle.checker.specs.declared.Refusal.{Refusal}

-- does a number fit 32 bits? `negsuc n` is −(n + 1)
unfoldable pub fits32 : ℤ → Bool
fits32 (pos n) = ltb n NARROW-RANGE
fits32 (negsuc n) = ltb n NARROW-RANGE

-- 16: does the number of each literal of the form fit 32 bits?
abbrev pub fitting32 : Form → Unit {0} → Rec → Bool
fitting32 form st r = not (eqb r.kind (literal_kind form)) || fits32 (number_in form r.body)

-- 16, put to the records of an image: the first literal that does not fit, at its record
unfoldable pub question16 : Form → List Rec → Found
question16 form rs = scan (fitting32 form) same nothing tt rs

-- 17: has the result, of so many bytes, at most as many as an image may have, and as the buffer has places?
unfoldable pub question17 : ℕ → ℕ → Found
question17 n places = cond (leb n IMAGE and leb n places) None (Some 0)

-- the image's own questions come first
unfoldable pub after : Verdict → Result ℕ Refusal → Result ℕ Refusal
after (Ok n) more = more
after (Err why) more = Err why

-- 16, 17, else how many bytes are written
abbrev pub from16 : Form → List ℕ → ℕ → Result ℕ Refusal
from16 form s places = let n = length (moved form (records s)) in ask 16 (question16 form (records s)) (ask 17 (question17 n places) (Ok n))

-- what becomes of the move of an image in a form to a buffer of so many places
unfoldable pub move_of : Form → List ℕ → ℕ → Result ℕ Refusal
move_of form s places = after (verdict_in form s) (from16 form s places)

-- the buffer after it: the bytes t from place 0 on, all else as it was; a refusal leaves it as it was
unfoldable pub leaves : Result ℕ Refusal → List ℕ → List ℕ → List ℕ
leaves (Ok n) out t = placed out 0 t
leaves (Err why) out t = out

-- the buffer after the move of an image in a form
abbrev pub buffer_after : Form → List ℕ → List ℕ → List ℕ
buffer_after form s out = leaves (move_of form s (length out)) out (moved form (records s))
