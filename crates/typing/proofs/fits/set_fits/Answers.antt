-- `typing::fits::set_fits`: one test after the other.
use Rattle.layout.proofs.Bools.{and-on, and-off}
use Rattle.layout.specs.Records.{choose}
use Rattle.program.specs.Program.{instr_by}
use Rattle.rules.specs.Fits.{fits}
use borrow.Author.Tests.{eq-eqb, ne_eqb}
use mathlib.Core.Path.{sym, ◌∙◌}
use Rattle.typing.proofs.fits.set_fits.Goals as goal

pub returns-then-is_integer : goal.returns-then-is_integer
unfolding fits instr_by choose
returns-then-is_integer c =
    c.is_integer-then-is_integer.ensures ∙ sym (and-on _ (eq-eqb _ _ c.if-b-eq0.true) ∙ and-on _ (sym c.is_owned.ensures ∙ c.if-is_owned.true) ∙ and-on _ (sym c.is_integer.ensures ∙ c.if-is_integer.true))

pub returns-else-is_integer : goal.returns-else-is_integer
unfolding fits instr_by choose
returns-else-is_integer c =
    c.if-is_integer.false ∙ (sym (and-on _ (eq-eqb _ _ c.if-b-eq0.true) ∙ and-on _ (sym c.is_owned.ensures ∙ c.if-is_owned.true) ∙ and-off _ (sym c.is_integer.ensures ∙ c.if-is_integer.false)))

pub returns-else-is_owned : goal.returns-else-is_owned
unfolding fits instr_by choose
returns-else-is_owned c =
    sym (and-on _ (eq-eqb _ _ c.if-b-eq0.true) ∙ and-off _ (sym c.is_owned.ensures ∙ c.if-is_owned.false))

pub returns-else-b-eq0 : goal.returns-else-b-eq0
unfolding fits instr_by choose
returns-else-b-eq0 c =
    sym (and-off _ (ne_eqb _ _ c.if-b-eq0.false))
