-- `typing::fits::use_fits`: one test after the other.
use Rattle.layout.proofs.Bools.{and-on, and-off}
use Rattle.layout.specs.Records.{choose}
use Rattle.program.specs.Program.{instr_by}
use Rattle.rules.specs.Fits.{fits}
use borrow.Author.Tests.{eq-eqb, ne_eqb}
use mathlib.Core.Path.{sym, ◌∙◌}
use Rattle.typing.proofs.fits.use_fits.Goals as goal

pub returns-then-is_owned : goal.returns-then-is_owned
unfolding fits instr_by choose
returns-then-is_owned c =
    c.takes_fresh.ensures ∙ sym (and-on _ (eq-eqb _ _ c.if-b-eq0.true) ∙ and-on _ (sym c.is_owned.ensures ∙ c.if-is_owned.true))

pub returns-else-is_owned : goal.returns-else-is_owned
unfolding fits instr_by choose
returns-else-is_owned c =
    c.if-is_owned.false ∙ (sym (and-on _ (eq-eqb _ _ c.if-b-eq0.true) ∙ and-off _ (sym c.is_owned.ensures ∙ c.if-is_owned.false)))

pub returns-else-b-eq0 : goal.returns-else-b-eq0
unfolding fits instr_by choose
returns-else-b-eq0 c =
    sym (and-off _ (ne_eqb _ _ c.if-b-eq0.false))
