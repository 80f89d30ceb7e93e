-- How long a report gets, and whose program is asked: the statements alone.
use Rattle.std.specs.Prelude.{◌≡◌, List, ℕ, ◌≤◌, length, Err, Ok}
use Rattle.std.proofs.Math.Option.{some}
use Rattle.std.proofs.Math.ListN.{get_elem?}
use Rattle.layout.specs.Bounds.{ALL-VERSIONS}
use Rattle.layout.specs.Records.{records}
use Rattle.layout.specs.Questions.{question1, question2, question3, question4, question5}
use Rattle.layout.specs.declared.Form.{Form}
use Rattle.program.specs.Program.{Version, program, program_by}
use Rattle.program.specs.Search.{first}
use Rattle.program.specs.Questions.{question7}
use Rattle.program.specs.Skips.{question14}
use Rattle.rules.specs.Questions.{question6, question8, question9, question18}
use Rattle.rules.specs.Flows.{question10}
use Rattle.checker.specs.Verdicts.{ask, verdict_in, Verdict, refused}
use Rattle.checker.specs.Reports.{version_line, refusal, answer, report_in}

-- what `check` prints has at most 1,100 bytes, of any image in either form
unfoldable pub ReportsShort : Type 0
ReportsShort = (form : Form) (s : List ℕ) → length (report_in form s) ≤ 1100

-- of an accepted image it has at most 64 lines of versions, each of at most 17 bytes with its newline
unfoldable pub LinesShort : Type 0
LinesShort =
    (form : Form) (s : List ℕ) (n : ℕ) → verdict_in form s ≡ Ok n
    → let P = program (records s) in (length P ≤ ALL-VERSIONS) × ((i : ℕ) (v : Version) → get_elem? P i ≡ some v → length (version_line P v) ≤ 17)

-- a refusal has at most 20 bytes
unfoldable pub RefusalsShort : Type 0
RefusalsShort = (form : Form) (s : List ℕ) (q p : ℕ) → verdict_in form s ≡ Err (refused q p) → length (refusal q p) ≤ 20

-- all questions in order, those to a program put to the one that this form makes of the records
unfoldable pub verdict_by : Form → List ℕ → Verdict
verdict_by form s =
    let rs = records s in
    let P = program_by form rs in
    ask 1 (question1 s) (ask 2 (question2 rs) (ask 3 (question3 form rs) (ask 4 (question4 (length s) rs) (ask 5 (question5 rs)
    (ask 6 (first question6 P) (ask 7 (first (question7 P) P) (ask 14 (question14 rs) (ask 8 (first (question8 P) P) (ask 18 (first (question18 P) P) (ask 9 (first (question9 P) P)
    (ask 10 (first (question10 P) P) (Ok (length P)))))))))))))

-- the two forms differ in question 3 alone: the verdict in a form, which asks the program of the 64-bit form, is that with the form's own program, the offset included
unfoldable pub OwnProgram : Type 0
OwnProgram = (form : Form) (s : List ℕ) → verdict_in form s ≡ verdict_by form s

-- and so is the report
unfoldable pub OwnReport : Type 0
OwnReport = (form : Form) (s : List ℕ) → report_in form s ≡ answer (program_by form (records s)) (verdict_by form s)
