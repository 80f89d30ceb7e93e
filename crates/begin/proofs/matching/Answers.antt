-- `begin::matching`: by what is given.
use Rattle.begin.proofs.Words.{none-matches, argument-matches, argument-fails}
use mathlib.Core.Path.{sym, ◌∙◌}
use Rattle.begin.proofs.matching.Goals as goal

pub returns-in_err-argument : goal.returns-in_err-argument
returns-in_err-argument c =
    c.from_residual.ensures ∙ none-matches _ _ (sym c.given.ensures ∙ c.in_err-argument.was)

pub returns-then-is_of : goal.returns-then-is_of
returns-then-is_of c =
    argument-matches _ _ _ (sym c.given.ensures ∙ c.in_ok-argument.was) (sym c.is_of.ensures ∙ c.if-is_of.true)

pub returns-else-is_of : goal.returns-else-is_of
returns-else-is_of c =
    argument-fails _ _ _ (sym c.given.ensures ∙ c.in_ok-argument.was) (sym c.is_of.ensures ∙ c.if-is_of.false)
