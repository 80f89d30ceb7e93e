-- How long words get: a table's longest row bounds every text that is chosen from it.
use mathlib.Core.Path.{◌≡◌, refl}
use mathlib.Core.List.{List, [], ◌∷◌}
use mathlib.Core.Bool.{Bool, true, false, cond}
use Prim.Native.Nat.{ℕ, ◌≤◌}
use native.Mathlib.Omega.{arith}
use lib.Dec.{eqb, leb}
use lib.ListN.{length}
use borrow.Author.Tests.{leb-true}
use Rattle.layout.specs.Tests.{◌and◌}
use Rattle.layout.specs.Records.{choose}
use Rattle.layout.proofs.Bools.{and_both}
use Rattle.writer.specs.Text.{text}
use Rattle.words.specs.Words.{question_text, answer_text}
use Rattle.words.specs.Claims.{QuestionsShort, AnswersShort}

-- has each row at most m bytes?
fit : ℕ → List (ℕ × List ℕ) → Bool
fit m [] = true
fit m (row ∷ rows) = leb (length row.1) m and fit m rows

-- then so has the row of any number, and a number without one has none
chosen-short : (n m : ℕ) (rows : List (ℕ × List ℕ)) → fit m rows ≡ true → length (choose n [] rows) ≤ m
unfolding choose fit
chosen-short n m [] h = omega arith
chosen-short n m (row ∷ rows) h =
    let z = and_both _ _ h in
    go (eqb n row.0) (leb-true _ _ z.0) (chosen-short n m rows z.1)
  where
    go : (b : Bool) → length row.1 ≤ m → length (choose n [] rows) ≤ m → length (cond b row.1 (choose n [] rows)) ≤ m
    go true x y = x
    go false x y = y

pub questions-short : QuestionsShort
unfolding QuestionsShort question_text text fit ◌and◌
questions-short n = chosen-short n 128 _ refl

pub answers-short : AnswersShort
unfolding AnswersShort answer_text text fit ◌and◌
answers-short n = chosen-short n 64 _ refl
