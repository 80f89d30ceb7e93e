-- `typing::fits::prom_fits`: a block that is looked up stands at its place.
use Rattle.layout.proofs.Bools.{found_some, found_none}
use Rattle.layout.specs.Records.{choose}
use Rattle.program.proofs.Lookups.{block-found, block-missing}
use Rattle.program.specs.Places.{block_at}
use Rattle.program.specs.Program.{instr_by}
use Rattle.rules.specs.Fits.{fits}
use mathlib.Core.Path.{sym, ◌∙◌}
use Rattle.typing.proofs.fits.prom_fits.Goals as goal

pub returns-in_default : goal.returns-in_default
unfolding fits instr_by choose
returns-in_default c =
    sym (found_none _ (rw (← c.field.ensures.0) (block-missing _ _ _ (sym c.block.ensures ∙ c.in_default.is))))

pub returns : goal.returns
unfolding fits instr_by choose block_at
returns c =
    c.takes_plain.ensures ∙ rw c.field-2.ensures.0 (sym (found_some _ (rw c.field.ensures.0 at (block-found _ _ _ _ (sym c.block.ensures ∙ c.in-Some.is)))))
