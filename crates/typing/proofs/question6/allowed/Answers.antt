-- `typing::question6::allowed`: by whether the register is a parameter.
use Rattle.rules.specs.Questions.{type_allowed}
use borrow.Author.Tests.{lt-ltb, le-ltb}
use mathlib.Core.Path.{◌∙◌}
use Rattle.typing.proofs.question6.allowed.Goals as goal

pub returns-then-r-parameters : goal.returns-then-r-parameters
unfolding type_allowed
returns-then-r-parameters c =
    c.parameter_type.ensures ∙ simp (lt-ltb _ _ c.if-r-parameters.true)

pub returns-else-r-parameters : goal.returns-else-r-parameters
unfolding type_allowed
returns-else-r-parameters c =
    c.register_type.ensures ∙ simp (le-ltb _ _ c.if-r-parameters.false)
