use Rattle.std.proofs.Common.{rules, ◌∙◌, ap}
use Rattle.std.specs.Result.{result_err}
use Rattle.layout.proofs.Along.{err-along, judged}
use Rattle.layout.specs.Questions.{question3, same, fitting}
use Rattle.layout.proofs.question_3.Goals as goal

pub returns : goal.returns
unfolding question3
returns c = c.err.ensures.value ∙ ap result_err (c.along.ensures (judged (fitting c.args.form) same) (λ st at r h e. search rules)) ∙ err-along (fitting c.args.form) same _ _
