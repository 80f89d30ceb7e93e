-- `changes::answer_15`: what differs first, then what is missing.
use Rattle.machine.proofs.Changes.{differs, is-missing, all_stay}
use mathlib.Core.Path.{sym, ◌∙◌}
use Rattle.changes.proofs.answer_15.Goals as goal

pub returns-in-Some : goal.returns-in-Some
returns-in-Some c =
    sym (differs _ _ _ _ (sym c.question_15.ensures ∙ c.in-Some.is))

pub returns-then-all_there : goal.returns-then-all_there
returns-then-all_there c =
    let none-differs = sym c.question_15.ensures ∙ c.in_default.is in
    sym (all_stay _ _ _ none-differs (sym c.all_there.ensures ∙ c.if-all_there.true))

pub returns-else-all_there : goal.returns-else-all_there
returns-else-all_there c =
    let none-differs = sym c.question_15.ensures ∙ c.in_default.is in
    sym (is-missing _ _ _ none-differs (sym c.all_there.ensures ∙ c.if-all_there.false))
