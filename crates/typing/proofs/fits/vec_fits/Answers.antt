-- `typing::fits::vec_fits`: one test after the other.
use Rattle.layout.proofs.Bools.{and-on, and-off}
use Rattle.layout.specs.Records.{choose}
use Rattle.program.specs.Program.{instr_by}
use Rattle.rules.specs.Fits.{fits}
use mathlib.Core.Path.{sym, ◌∙◌}
use Rattle.typing.proofs.fits.vec_fits.Goals as goal

pub returns-then-all_integers : goal.returns-then-all_integers
unfolding fits instr_by choose
returns-then-all_integers c =
    c.takes_fresh.ensures ∙ sym (and-on _ (rw c.field.ensures.0 at (sym c.all_integers.ensures ∙ c.if-all_integers.true)))

pub returns-else-all_integers : goal.returns-else-all_integers
unfolding fits instr_by choose
returns-else-all_integers c =
    c.if-all_integers.false ∙ (sym (and-off _ (rw c.field.ensures.0 at (sym c.all_integers.ensures ∙ c.if-all_integers.false))))
