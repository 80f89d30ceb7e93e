-- `changes::change`: the verdict on the new image, then 15, whose offset lies within an accepted image.
use Rattle.layout.specs.declared.Form.{Form}
use Rattle.checker.proofs.Offsets.{refused-low}
use Rattle.machine.proofs.Changes.{answer-low, change-refused, change-taken, change-differs}
use Rattle.changes.proofs.Owners.{owned}
use mathlib.Core.Path.{sym, ◌∙◌}
use native.Mathlib.Omega.{arith}
use Rattle.changes.proofs.change.Goals as goal

pub overflow_cast-result : goal.overflow_cast-result
overflow_cast-result c =
    record { fits = omega (arith, refused-low Form.Wide _ _ _ (sym c.verdict.ensures ∙ c.in-Err.is)) }

pub overflow_cast-result-in-Some : goal.overflow_cast-result-in-Some
overflow_cast-result-in-Some c =
    let accepted = sym c.verdict.ensures ∙ c.in-Ok.is in
    let found = sym c.answer_15.ensures ∙ c.in-Some.is in
    record { fits = omega (arith, answer-low _ _ _ _ accepted _ found) }

pub returns-in-Err : goal.returns-in-Err
returns-in-Err c =
    λ n. sym (change-refused _ _ _ _ _ (sym c.verdict.ensures ∙ c.in-Err.is)) ∙ owned _ n _ _

pub returns-in-None : goal.returns-in-None
returns-in-None c =
    let accepted = sym c.verdict.ensures ∙ c.in-Ok.is in
    λ n. sym (change-taken _ _ _ _ accepted (sym c.answer_15.ensures ∙ c.in-None.is)) ∙ owned _ n _ _

pub returns-in-Some : goal.returns-in-Some
returns-in-Some c =
    let accepted = sym c.verdict.ensures ∙ c.in-Ok.is in
    λ n. sym (change-differs _ _ _ _ accepted _ (sym c.answer_15.ensures ∙ c.in-Some.is)) ∙ owned _ n _ _
