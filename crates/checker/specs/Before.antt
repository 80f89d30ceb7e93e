-- Filling a register again (02, 9): the verdict and the text before, and that an image which was accepted is accepted, with the same text.
use Rattle.std.specs.Prelude.{◌≡◌, ℕ, length, Err, Ok}
use mathlib.Core.List.{List, [], ◌∷◌, ◌++◌, flat_map}
use Rattle.std.proofs.Math.Option.{Option-elim}
use Rattle.layout.specs.Records.{records}
use Rattle.layout.specs.Found.{Found}
use Rattle.layout.specs.Questions.{question1, question2, question3, question4, question5}
use Rattle.layout.specs.declared.Form.{Form}
use Rattle.sets.specs.Sets.{size}
use Rattle.program.specs.Program.{Version, Program, program}
use Rattle.program.specs.Search.{Question, first, free}
use Rattle.program.specs.Questions.{question7}
use Rattle.program.specs.Skips.{question14}
use Rattle.rules.specs.Questions.{question6, question8, question18, question9}
use Rattle.rules.specs.Before.{body_action₀, flows₀}
use Rattle.writer.specs.Text.{text, decimal}
use Rattle.checker.specs.Verdicts.{ask, verdict_in, Verdict}
use Rattle.checker.specs.Reports.{line_text, refusal, report_text}

-- 10 before
abbrev pub question10₀ : Program → Question
question10₀ P = record { of_version = flows₀ P; of_block = free; of_instr = free }

-- the verdict in a form, where `last` is what question 10 finds. Written out, so that a question more or less in `verdict_in` changes nothing here
abbrev pub ending_with : Form → Found → List ℕ → Verdict
ending_with form last s =
    let rs = records s in
    let P = program rs in
    ask 1 (question1 s) (ask 2 (question2 rs) (ask 3 (question3 form rs) (ask 4 (question4 (length s) rs) (ask 5 (question5 rs)
    (ask 6 (first question6 P) (ask 7 (first (question7 P) P) (ask 14 (question14 rs) (ask 8 (first (question8 P) P) (ask 18 (first (question18 P) P) (ask 9 (first (question9 P) P)
    (ask 10 last (Ok (length P)))))))))))))

-- the verdict before
unfoldable pub verdict₀ : Form → List ℕ → Verdict
verdict₀ form s = ending_with form (first (question10₀ (program (records s))) (program (records s))) s

-- the four counts of a version before
unfoldable pub counts₀ : Program → Version → List ℕ
counts₀ P v = Option-elim (body_action₀ P v) [] (λ a. size a.R ∷ size a.W ∷ size a.U ∷ size a.C ∷ [])

-- the text of an answer before
unfoldable pub answer₀ : Program → Verdict → List ℕ
answer₀ P (Ok n) = flat_map (λ (v : Version). line_text v.function v.version (counts₀ P v)) P ++ text "accepted " ++ decimal n ++ text "\n"
answer₀ P (Err why) = refusal why.question why.at

-- the text before
unfoldable pub report_text₀ : List ℕ → List ℕ
report_text₀ s = answer₀ (program (records s)) (verdict₀ Form.Wide s)

-- An image that was accepted before is accepted, with as many versions
unfoldable pub StillAccepted : Type 0
StillAccepted = (form : Form) (s : List ℕ) (k : ℕ) → verdict₀ form s ≡ Ok k → verdict_in form s ≡ Ok k

-- and `check` prints the same of it, the four counts of each version included
unfoldable pub SameReport₀ : Type 0
SameReport₀ = (s : List ℕ) (k : ℕ) → verdict₀ Form.Wide s ≡ Ok k → report_text₀ s ≡ report_text s
