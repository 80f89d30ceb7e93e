-- `typing::question6::dispatch_types`: the return, then the types of its pairs, which are every second field.
use Rattle.layout.proofs.Bools.{and-on, and-off}
use Rattle.layout.specs.Records.{choose}
use Rattle.program.specs.Program.{instr_by}
use Rattle.typing.proofs.TypeBytes.{pair_types}
use Rattle.rules.specs.Questions.{types_allowed}
use mathlib.Core.Path.{sym, ◌∙◌}
use Rattle.typing.proofs.question6.dispatch_types.Goals as goal

pub returns-then-return_type : goal.returns-then-return_type
unfolding types_allowed instr_by choose
returns-then-return_type c =
    c.all_allowed.ensures ∙ pair_types _ 5 _ c.field-n.ensures.0 ∙ sym (and-on _ (rw c.field.ensures.0 at (sym c.return_type.ensures ∙ c.if-return_type.true)))

pub returns-else-return_type : goal.returns-else-return_type
unfolding types_allowed instr_by choose
returns-else-return_type c =
    c.if-return_type.false ∙ (sym (and-off _ (rw c.field.ensures.0 at (sym c.return_type.ensures ∙ c.if-return_type.false))))
