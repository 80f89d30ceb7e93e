-- Questions put to an image: those to its program, whose no gives the offset of the first record that fails.
use Rattle.std.specs.Prelude.{List, [], ◌∷◌, Bool, true, cond, ℕ, ◌+◌, None, Some}
use Rattle.layout.specs.Found.{Found}
use Rattle.program.specs.Program.{Instr, Line, Block, Version, Program}

-- A question to the program: what it asks of a version, of the block n of a version, and of an instruction there.
pub record Question : Type 0 where
  pub of_version : Version → Bool
  pub of_block : Version → ℕ → Block → Bool
  pub of_instr : Version → ℕ → Instr → Bool

-- the first that fails among instructions of the block n; `more` is what follows them
unfoldable pub first_line : Question → Version → ℕ → List Line → Found → Found
first_line q v n [] more = more
first_line q v n (l ∷ ls) more = cond (q.of_instr v n l.does) (first_line q v n ls more) (Some l.at)

-- the first that fails among blocks from n on and their instructions; `more` is what follows them
unfoldable pub first_block : Question → Version → ℕ → List Block → Found → Found
first_block q v n [] more = more
first_block q v n (b ∷ bs) more = cond (q.of_block v n b) (first_line q v n b.code (first_block q v (n + 1) bs more)) (Some b.at)

-- the offset of the first record that fails the question, in the image's order
unfoldable pub first : Question → Program → Found
first q [] = None
first q (v ∷ vs) = cond (q.of_version v) (first_block q v 0 v.blocks (first q vs)) (Some v.at)

-- what a question does not ask
abbrev pub free : {A B : Type 0} → A → ℕ → B → Bool
free v n x = true
