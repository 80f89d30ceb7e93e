-- `typing::fits::poke_fits`: one test after the other.
use Rattle.layout.proofs.Bools.{and-on, and-off}
use Rattle.layout.specs.Records.{choose}
use Rattle.program.specs.Program.{instr_by}
use Rattle.rules.specs.Fits.{fits}
use mathlib.Core.Path.{sym, ◌∙◌}
use Rattle.typing.proofs.fits.poke_fits.Goals as goal

pub returns-then-is_promise : goal.returns-then-is_promise
unfolding fits instr_by choose
returns-then-is_promise c =
    c.is_value.ensures ∙ sym (and-on _ (sym c.is_promise.ensures ∙ c.if-is_promise.true))

pub returns-else-is_promise : goal.returns-else-is_promise
unfolding fits instr_by choose
returns-else-is_promise c =
    c.if-is_promise.false ∙ (sym (and-off _ (sym c.is_promise.ensures ∙ c.if-is_promise.false)))
