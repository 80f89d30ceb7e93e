-- What the parts of a move state to each other.
use Rattle.std.specs.Prelude.{◌≡◌, List, [], ◌∷◌, ℕ, ◌≤◌, ◌<◌, length, None}
use Rattle.layout.specs.Bounds.{IMAGE}
use Rattle.layout.specs.Records.{◌!◌, size_at, kind_at, body_at, records}
use Rattle.layout.specs.Forms.{literal_kind, literal_length, record_bytes, sign_byte, moved_kind, moved_body}
use Rattle.layout.specs.Questions.{length_of, question3}
use Rattle.layout.specs.declared.Form.{Form}

-- each is a byte
abbrev pub Bytes : List ℕ → Type 0
Bytes s = (i : ℕ) → s ! i < 256

-- an image in a form that is not too long and passed question 3
pub record Ready (form : Form) (s : List ℕ) : Type 0 where
  pub bytes : Bytes s
  pub short : length s ≤ IMAGE
  pub known : question3 form (records s) ≡ None

-- a whole record stands at p, known in the form
pub record Stands (form : Form) (s : List ℕ) (p : ℕ) : Type 0 where
  pub bytes : Bytes s
  pub inside : p < length s
  pub whole : size_at s p ≡ 0 → ⊥
  pub fits : size_at s p ≡ length_of form (kind_at s p) (body_at s p)

-- the bytes that the record at p becomes
unfoldable pub moved_at : Form → List ℕ → ℕ → List ℕ
moved_at form s p = record_bytes (moved_kind form (kind_at s p)) (moved_body form (kind_at s p) (body_at s p))

-- the head of a form's literal
unfoldable pub head_of : Form → List ℕ
head_of form = literal_length form ∷ 0 ∷ literal_kind form ∷ 0 ∷ []

-- the bytes that the number of the 32-bit literal at p gets
unfoldable pub sign_of : List ℕ → ℕ → List ℕ
sign_of s p = let b = sign_byte (body_at s p ! 4) in b ∷ b ∷ b ∷ b ∷ []
