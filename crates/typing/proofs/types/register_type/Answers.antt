-- `typing::types::register_type`: a parameter's type that is not borrowed.
use Rattle.layout.specs.Tests.{◌and◌}
use Rattle.rules.specs.Types.{ownership_of, is_borrowed, register_type}
use mathlib.Core.Path.{sym, ◌∙◌}
use Rattle.typing.proofs.types.register_type.Goals as goal

pub returns-then-parameter_type : goal.returns-then-parameter_type
unfolding register_type is_borrowed ownership_of ◌and◌
returns-then-parameter_type c =
    simp (sym c.parameter_type.ensures ∙ c.if-parameter_type.true)

pub returns-else-parameter_type : goal.returns-else-parameter_type
unfolding register_type is_borrowed ownership_of ◌and◌
returns-else-parameter_type c =
    c.if-parameter_type.false ∙ (simp (sym c.parameter_type.ensures ∙ c.if-parameter_type.false))
