-- 02, 14: what is promised of the answer: the statements alone.
use Rattle.std.specs.Prelude.{◌≡◌, ◌≢◌, ◌⊎◌, List, true, ℕ, ◌≤◌, ◌<◌, set, Err, Ok}
use Rattle.layout.specs.Records.{◌!◌, records}
use Rattle.program.specs.Program.{program}
use Rattle.checker.specs.Verdicts.{verdict_of, refused}
use Rattle.mends.specs.declared.Mended.{Mended}
use Rattle.mends.specs.Mends.{mend_of, mendable, places, to}
use Rattle.mends.specs.Parts.{Among}

-- a byte that is named is a register type byte of an image that is refused, and its change makes the image accepted
pub record Mends (s : List ℕ) (q r p x : ℕ) : Type 0 where
  pub refused : verdict_of s ≡ Err (refused q r)
  pub may : mendable q ≡ true
  pub place : Among p (places (program (records s)))
  pub other : x ≢ s ! p
  pub versions : ℕ
  pub accepted : verdict_of (set s p x) ≡ Ok versions

unfoldable pub MendsWell : Type 0
MendsWell = (s : List ℕ) (q r p x : ℕ) → mend_of s ≡ Mended.Byte (refused q r) (to p x) → Mends s q r p x

-- where none is named, no register type byte and no value of a byte makes the image accepted
unfoldable pub NoneMends : Type 0
NoneMends = (s : List ℕ) (q r : ℕ) → mend_of s ≡ Mended.Unmended (refused q r) → (p x : ℕ) → x < 256 → Mends s q r p x → ⊥

-- no lower place would do, and at that place no lower value
unfoldable pub LowestFirst : Type 0
LowestFirst = (s : List ℕ) (q r p x : ℕ) → mend_of s ≡ Mended.Byte (refused q r) (to p x) → (p' x' : ℕ) → x' < 256 → Mends s q r p' x' → (p < p') ⊎ ((p ≡ p') × (x ≤ x'))
