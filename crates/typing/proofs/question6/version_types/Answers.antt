-- `typing::question6::version_types`: the register types, then the return.
use Rattle.layout.proofs.Bools.{and-on, and-off}
use Rattle.program.specs.Places.{version_at}
use Rattle.rules.specs.Questions.{version_types}
use Rattle.rules.specs.Types.{return_type}
use mathlib.Core.Path.{sym, ap, ◌∙◌}
use Rattle.typing.proofs.question6.version_types.Goals as goal

pub returns-then-all_allowed : goal.returns-then-all_allowed
unfolding version_types version_at
returns-then-all_allowed c =
    c.return_type.ensures ∙ ap return_type c.field.ensures.0 ∙ sym (and-on _ (rw (c.field-parameters.ensures.0, c.field-registers.ensures.0) at (sym c.all_allowed.ensures ∙ c.if-all_allowed.true)))

pub returns-else-all_allowed : goal.returns-else-all_allowed
unfolding version_types version_at
returns-else-all_allowed c =
    c.if-all_allowed.false ∙ (sym (and-off _ (rw (c.field-parameters.ensures.0, c.field-registers.ensures.0) at (sym c.all_allowed.ensures ∙ c.if-all_allowed.false))))
