-- How long words get: the statements alone.
use Rattle.std.specs.Prelude.{ℕ, ◌≤◌, length}
use Rattle.words.specs.Words.{question_text, answer_text}

-- the words of a question, whatever its number, have at most 128 bytes
unfoldable pub QuestionsShort : Type 0
QuestionsShort = (n : ℕ) → length (question_text n) ≤ 128

-- those of an answer, whatever its code, have at most 64
unfoldable pub AnswersShort : Type 0
AnswersShort = (n : ℕ) → length (answer_text n) ≤ 64
