-- `typing::fits::dup_fits`: one test after the other.
use Rattle.layout.proofs.Bools.{and-on, and-off}
use Rattle.layout.specs.Records.{choose}
use Rattle.program.specs.Program.{instr_by}
use Rattle.rules.specs.Fits.{fits}
use mathlib.Core.Path.{sym, ◌∙◌}
use Rattle.typing.proofs.fits.dup_fits.Goals as goal

pub returns-then-is_vector : goal.returns-then-is_vector
unfolding fits instr_by choose
returns-then-is_vector c =
    c.takes_fresh.ensures ∙ sym (and-on _ (sym c.is_vector.ensures ∙ c.if-is_vector.true))

pub returns-else-is_vector : goal.returns-else-is_vector
unfolding fits instr_by choose
returns-else-is_vector c =
    c.if-is_vector.false ∙ (sym (and-off _ (sym c.is_vector.ensures ∙ c.if-is_vector.false)))
