-- `typing::fits::select_fits`: one test after the other.
use Rattle.layout.proofs.Bools.{and-on, and-off}
use Rattle.layout.specs.Records.{choose}
use Rattle.program.specs.Program.{instr_by}
use Rattle.rules.specs.Fits.{fits}
use mathlib.Core.Path.{sym, ◌∙◌}
use Rattle.typing.proofs.fits.select_fits.Goals as goal

pub returns-then-is_integer-3 : goal.returns-then-is_integer-3
unfolding fits instr_by choose
returns-then-is_integer-3 c =
    c.takes_plain.ensures ∙ sym (and-on _ (sym c.is_integer.ensures ∙ c.if-is_integer.true) ∙ and-on _ (sym c.is_integer-then-is_integer.ensures ∙ c.if-is_integer-2.true) ∙ and-on _ (sym c.is_integer-then-is_integer-2.ensures ∙ c.if-is_integer-3.true))

pub returns-else-is_integer-3 : goal.returns-else-is_integer-3
unfolding fits instr_by choose
returns-else-is_integer-3 c =
    c.if-is_integer-3.false ∙ (sym (and-on _ (sym c.is_integer.ensures ∙ c.if-is_integer.true) ∙ and-on _ (sym c.is_integer-then-is_integer.ensures ∙ c.if-is_integer-2.true) ∙ and-off _ (sym c.is_integer-then-is_integer-2.ensures ∙ c.if-is_integer-3.false)))

pub returns-else-is_integer-2 : goal.returns-else-is_integer-2
unfolding fits instr_by choose
returns-else-is_integer-2 c =
    sym (and-on _ (sym c.is_integer.ensures ∙ c.if-is_integer.true) ∙ and-off _ (sym c.is_integer-then-is_integer.ensures ∙ c.if-is_integer-2.false))

pub returns-else-is_integer : goal.returns-else-is_integer
unfolding fits instr_by choose
returns-else-is_integer c =
    sym (and-off _ (sym c.is_integer.ensures ∙ c.if-is_integer.false))
