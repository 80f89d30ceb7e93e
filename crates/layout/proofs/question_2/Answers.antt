use Rattle.std.proofs.Common.{rules, ◌∙◌, ap}
use Rattle.std.specs.Result.{result_err}
use Rattle.layout.proofs.Along.{err-along, judged}
use Rattle.layout.specs.Questions.{question2, same, whole}
use Rattle.layout.proofs.question_2.Goals as goal

pub returns : goal.returns
unfolding question2
returns c = c.err.ensures.value ∙ ap result_err (c.along.ensures (judged whole same) (λ st at r h e. search rules)) ∙ err-along whole same _ _
