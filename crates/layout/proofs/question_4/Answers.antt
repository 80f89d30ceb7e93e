use Rattle.std.proofs.Common.{rules, ◌≡◌, ◌∙◌, sym, ap, length}
use Rattle.std.specs.Prelude.{Result, ℕ}
use Rattle.layout.specs.Found.{Found}
use Rattle.layout.specs.Tests.{◌and◌}
use Rattle.layout.specs.Records.{records}
use Rattle.layout.specs.Scan.{along}
use Rattle.layout.specs.Questions.{question4, placed, due_after, none_due, start}
use Rattle.layout.specs.declared.Due.{Due}
use Rattle.layout.proofs.Along.{scan-along, ended, judged}
use Rattle.layout.proofs.Turns.{none-missing, some-missing}
use Rattle.layout.proofs.question_4.Goals as goal
use Rattle.layout.proofs.question_4.Goals.{After-along-left}

-- the question by where the records came to
came : (c : After-along-left) → (r : Result Due ℕ) → c.along-left.result ≡ r → ended (none_due (length c.args.image.now)) r ≡ question4 (length c.args.image.now) (records c.args.image.now)
unfolding question4 ◌and◌
came c r e = ap (ended (none_due (length c.args.image.now))) (sym e ∙ c.along-left.ensures (judged placed due_after) (λ st at r h e. search rules)) ∙ scan-along placed due_after (none_due _) start _

pub returns-in-Ok : goal.returns-in-Ok
unfolding ended
returns-in-Ok c = none-missing _ _ (sym c.is_idle.ensures ∙ c.if-is_idle.true) ∙ came (goal.at.returns-in-Ok c).After-along-left _ c.in-Ok.is

pub returns-in-Ok-2 : goal.returns-in-Ok-2
unfolding ended
returns-in-Ok-2 c = some-missing _ _ (sym c.is_idle.ensures ∙ c.if-is_idle.false) ∙ came (goal.at.returns-in-Ok-2 c).After-along-left _ c.in-Ok.is

pub returns-in-Err : goal.returns-in-Err
unfolding ended
returns-in-Err c = came (goal.at.returns-in-Err c).After-along-left _ c.in-Err.is
