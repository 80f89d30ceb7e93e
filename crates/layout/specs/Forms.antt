-- 02, 5 and 6: the two forms of an image, which differ in their literals alone.
use Rattle.std.specs.Prelude.{List, [], ◌∷◌, ◌++◌, map, cond, ℕ, ◌+◌, ◌/◌, ◌%◌, length, take, eqb, ltb}
use Rattle.layout.specs.Kinds as kind
use Rattle.layout.specs.Records.{Rec, ◌!◌}
use Rattle.layout.specs.declared.Form.{Form}

-- the kind of a form's literal
unfoldable pub literal_kind : Form → ℕ
literal_kind Form.Narrow = kind.NARROW-LIT
literal_kind Form.Wide = kind.LIT

-- its whole length: head, register, number
unfoldable pub literal_length : Form → ℕ
literal_length Form.Narrow = 9
literal_length Form.Wide = 13

-- ---- bytes of records

-- the bytes of a record: its length, its kind, its body
unfoldable pub record_bytes : ℕ → List ℕ → List ℕ
record_bytes k b = let n = 4 + length b in n % 256 ∷ n / 256 ∷ k % 256 ∷ k / 256 ∷ b

-- the bytes of records one behind the other
unfoldable pub printed : List Rec → List ℕ
printed [] = []
printed (r ∷ rs) = record_bytes r.kind r.body ++ printed rs

-- ---- from one form to the other

-- the other form
unfoldable pub other : Form → Form
other Form.Narrow = Form.Wide
other Form.Wide = Form.Narrow

-- each further byte of a number, by its highest byte: its sign
unfoldable pub sign_byte : ℕ → ℕ
sign_byte b = cond (ltb b 128) 0 255

-- the body of a literal in the other form: a number of 32 bits gets four bytes more, one of 64 bits loses four
unfoldable pub moved_number : Form → List ℕ → List ℕ
moved_number Form.Narrow b = let s = sign_byte (b ! 4) in b ++ s ∷ s ∷ s ∷ s ∷ []
moved_number Form.Wide b = take 5 b

-- the kind and the body of a record in the other form: only literals change
unfoldable pub moved_kind : Form → ℕ → ℕ
moved_kind form k = cond (eqb k (literal_kind form)) (literal_kind (other form)) k

unfoldable pub moved_body : Form → ℕ → List ℕ → List ℕ
moved_body form k b = cond (eqb k (literal_kind form)) (moved_number form b) b

-- a record in the other form; where it will stand is not said
abbrev pub moved_record : Form → Rec → Rec
moved_record form r = let b = moved_body form r.kind r.body in record { at = r.at; size = 4 + length b; kind = moved_kind form r.kind; body = b }

-- 02, 6: the bytes of these records of an image in a form, each literal written in the other form
unfoldable pub moved : Form → List Rec → List ℕ
moved form rs = printed (map (moved_record form) rs)
