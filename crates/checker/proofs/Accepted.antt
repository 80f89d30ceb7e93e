-- What an accepted image gives: each question's fact, for its records and for every version, block and instruction that is looked up.
use Rattle.std.specs.Prelude.{None, Err, Ok}
use mathlib.Core.Path.{◌≡◌, ap, ◌∙◌}
use mathlib.Core.List.{List}
use mathlib.Core.Option.{some}
use Prim.Native.Nat.{ℕ}
use lib.ListN.{length}
use Rattle.layout.specs.Records.{records}
use Rattle.layout.specs.Questions.{question1, question2, question3, question4, question5}
use Rattle.layout.specs.declared.Form.{Form}
use Rattle.program.specs.Program.{Version, program, find_version}
use Rattle.program.specs.Search.{first}
use Rattle.program.specs.Questions.{question7}
use Rattle.program.specs.Skips.{question14}
use Rattle.program.proofs.Held.{holds}
use Rattle.program.specs.Held.{bounds}
use Rattle.program.proofs.Laid.{in_bounds_lem}
use Rattle.rules.specs.Questions.{question6, question8, question9, question18}
use Rattle.rules.specs.Flows.{question10}
use Rattle.checker.specs.Verdicts.{verdict_of, verdict_in, Verdict}
pub use Rattle.checker.specs.Checked.{Checked}
use Rattle.checker.specs.Checked.{EachChecked}
use Rattle.checker.proofs.Asks.{asked, ask-yes}

-- what the questions found of the image s of a form, whose program has k versions
pub record Passed (form : Form) (s : List ℕ) (k : ℕ) : Type 0 where
  pub q1 : question1 s ≡ None
  pub q2 : question2 (records s) ≡ None
  pub q3 : question3 form (records s) ≡ None
  pub q4 : question4 (length s) (records s) ≡ None
  pub q5 : question5 (records s) ≡ None
  pub q6 : first question6 (program (records s)) ≡ None
  pub q7 : first (question7 (program (records s))) (program (records s)) ≡ None
  pub q14 : question14 (records s) ≡ None
  pub q8 : first (question8 (program (records s))) (program (records s)) ≡ None
  pub q18 : first (question18 (program (records s))) (program (records s)) ≡ None
  pub q9 : first (question9 (program (records s))) (program (records s)) ≡ None
  pub q10 : first (question10 (program (records s))) (program (records s)) ≡ None
  pub count : length (program (records s)) ≡ k

-- the number that an answer carries behind its case
carried : Verdict → ℕ
carried (Ok k) = k
carried (Err why) = why.at

-- an accepted image passed all questions
pub passed : {form : Form} (s : List ℕ) (k : ℕ) → verdict_in form s ≡ Ok k → Passed form s k
unfolding verdict_in carried
passed s k e =
    let e1 = asked 1 _ _ k e in
    let e2 = asked 2 _ _ k e1.1 in
    let e3 = asked 3 _ _ k e2.1 in
    let e4 = asked 4 _ _ k e3.1 in
    let e5 = asked 5 _ _ k e4.1 in
    let e6 = asked 6 _ _ k e5.1 in
    let e7 = asked 7 _ _ k e6.1 in
    let e14 = asked 14 _ _ k e7.1 in
    let e8 = asked 8 _ _ k e14.1 in
    let e18 = asked 18 _ _ k e8.1 in
    let e9 = asked 9 _ _ k e18.1 in
    let e10 = asked 10 _ _ k e9.1 in
    record {
      q1 = e1.0;
      q2 = e2.0;
      q3 = e3.0;
      q4 = e4.0;
      q5 = e5.0;
      q6 = e6.0;
      q7 = e7.0;
      q14 = e14.0;
      q8 = e8.0;
      q18 = e18.0;
      q9 = e9.0;
      q10 = e10.0;
      count = ap carried e10.1;
    }

-- an image that passed all questions is accepted
pub accept : {form : Form} {s : List ℕ} {k : ℕ} → Passed form s k → verdict_in form s ≡ Ok k
unfolding verdict_in
accept a =
    ask-yes 1 _ a.q1 ∙ ask-yes 2 _ a.q2 ∙ ask-yes 3 _ a.q3 ∙ ask-yes 4 _ a.q4 ∙ ask-yes 5 _ a.q5 ∙ ask-yes 6 _ a.q6 ∙ ask-yes 7 _ a.q7
    ∙ ask-yes 14 _ a.q14 ∙ ask-yes 8 _ a.q8 ∙ ask-yes 18 _ a.q18 ∙ ask-yes 9 _ a.q9 ∙ ask-yes 10 _ a.q10 ∙ ap Ok a.count

-- every version of an accepted image is checked
pub checked : (s : List ℕ) (k : ℕ) → verdict_of s ≡ Ok k → (f w : ℕ) (v : Version) → find_version (program (records s)) f w ≡ some v → Checked (program (records s)) v
checked s k e f w v h =
    let P = program (records s) in
    let all = passed s k e in
    record {
      bound = holds bounds P (in_bounds_lem (length s) (records s) all.q4) f w v h;
      types = holds question6 P all.q6 f w v h;
      exist = holds (question7 P) P all.q7 f w v h;
      fit = holds (question8 P) P all.q8 f w v h;
      down = holds (question18 P) P all.q18 f w v h;
      cover = holds (question9 P) P all.q9 f w v h;
      flow = holds (question10 P) P all.q10 f w v h;
    }

-- THE LAW of the verdict
pub each-checked : EachChecked
unfolding EachChecked
each-checked = checked
