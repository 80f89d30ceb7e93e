-- Questions put to an image: each is put to the whole image before the next.
use Rattle.std.specs.Prelude.{List, ℕ, length, None, Some, Err, Ok, Result}
use Rattle.layout.specs.Found.{Found}
use Rattle.layout.specs.Records.{records}
use Rattle.layout.specs.Questions.{question1, question2, question3, question4, question5}
use Rattle.layout.specs.declared.Form.{Form}
use Rattle.program.specs.Program.{program}
use Rattle.program.specs.Search.{first}
use Rattle.program.specs.Questions.{question7}
use Rattle.program.specs.Skips.{question14}
use Rattle.rules.specs.Questions.{question6, question8, question9, question18}
use Rattle.rules.specs.Flows.{question10}
use Rattle.checker.specs.declared.Refusal.{Refusal}

-- the number of versions of an accepted image, or the refusal
abbrev pub Verdict : Type 0
Verdict = Result ℕ Refusal

-- by the question q at the offset p
abbrev pub refused : ℕ → ℕ → Refusal
refused q p = record { question = q; at = p }

-- a no gives the question's number and the offset of the first record that fails; else those that follow are put
unfoldable pub ask : {A : Type 0} → ℕ → Found → Result A Refusal → Result A Refusal
ask n None more = more
ask n (Some p) more = Err (refused n p)

-- all questions, put to an image in a form, 14 after 7 and 18 after 8; an image that passes them all is accepted, with its number of versions. Question 3 alone asks for the form: no other looks at a literal's kind or number
unfoldable pub verdict_in : Form → List ℕ → Verdict
verdict_in form s =
    let rs = records s in
    let P = program rs in
    ask 1 (question1 s) (ask 2 (question2 rs) (ask 3 (question3 form rs) (ask 4 (question4 (length s) rs) (ask 5 (question5 rs)
    (ask 6 (first question6 P) (ask 7 (first (question7 P) P) (ask 14 (question14 rs) (ask 8 (first (question8 P) P) (ask 18 (first (question18 P) P) (ask 9 (first (question9 P) P)
    (ask 10 (first (question10 P) P) (Ok (length P)))))))))))))

-- in the form in force, that of 64 bits
abbrev pub verdict_of : List ℕ → Verdict
verdict_of s = verdict_in Form.Wide s
