-- `typing::fits::cast_fits`: one test after the other.
use Rattle.layout.proofs.Bools.{and-on, and-off}
use Rattle.layout.specs.Records.{choose}
use Rattle.program.specs.Program.{instr_by}
use Rattle.rules.specs.Fits.{fits}
use mathlib.Core.Path.{sym, ◌∙◌}
use Rattle.typing.proofs.fits.cast_fits.Goals as goal

pub returns-then-is_shared : goal.returns-then-is_shared
unfolding fits instr_by choose
returns-then-is_shared c =
    c.is_shared-then-is_shared.ensures ∙ sym (and-on _ (sym c.is_shared.ensures ∙ c.if-is_shared.true))

pub returns-else-is_shared : goal.returns-else-is_shared
unfolding fits instr_by choose
returns-else-is_shared c =
    c.if-is_shared.false ∙ (sym (and-off _ (sym c.is_shared.ensures ∙ c.if-is_shared.false)))
