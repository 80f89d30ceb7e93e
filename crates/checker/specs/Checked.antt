-- What an accepted image has: the fact of each question to the program, for every version, block and instruction that is looked up.
use Rattle.std.specs.Prelude.{◌≡◌, List, ℕ, Ok}
use Rattle.std.proofs.Math.Option.{some}
use Rattle.layout.specs.Records.{records}
use Rattle.program.specs.Held.{Held, bounds}
use Rattle.program.specs.Program.{Version, Program, program, find_version}
use Rattle.program.specs.Questions.{question7}
use Rattle.rules.specs.Questions.{question6, question8, question9, question18}
use Rattle.rules.specs.Flows.{question10}
use Rattle.checker.specs.Verdicts.{verdict_of}

-- what questions 4, 6 to 10 and 18 found of a version of the program P
pub record Checked (P : Program) (v : Version) : Type 0 where
  pub bound : Held bounds v
  pub types : Held question6 v
  pub exist : Held (question7 P) v
  pub fit : Held (question8 P) v
  pub down : Held (question18 P) v
  pub cover : Held (question9 P) v
  pub flow : Held (question10 P) v

-- Every version of an accepted image is checked
unfoldable pub EachChecked : Type 0
EachChecked =
    (s : List ℕ) (k : ℕ) → verdict_of s ≡ Ok k → (f w : ℕ) (v : Version) → find_version (program (records s)) f w ≡ some v
    → Checked (program (records s)) v
