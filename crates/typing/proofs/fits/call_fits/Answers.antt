-- `typing::fits::call_fits`: a version that is looked up stands at its place.
use Rattle.layout.proofs.Bools.{found_some, found_none}
use Rattle.layout.specs.Records.{choose}
use Rattle.program.proofs.Lookups.{version-found, version-missing}
use Rattle.program.specs.Places.{version_at}
use Rattle.program.specs.Program.{instr_by}
use Rattle.typing.proofs.Pairs.{call-arguments}
use Rattle.rules.specs.Fits.{fits}
use mathlib.Core.Path.{sym, ◌∙◌}
use Rattle.typing.proofs.fits.call_fits.Goals as goal

pub returns-in_default : goal.returns-in_default
unfolding fits instr_by choose
returns-in_default c =
    sym (found_none _ (rw (← c.field-f.ensures.0, ← c.field-w.ensures.0) (version-missing _ _ _ (sym c.version.ensures ∙ c.in_default.is))))

pub call_fits-requires : goal.call_fits-requires
call_fits-requires c =
    c.of_call.ensures.1

pub returns : goal.returns
unfolding fits instr_by choose version_at
returns c =
    c.call_fits.ensures ∙ rw (c.of_call.ensures.0, c.field.ensures.0, ← call-arguments)
    (sym (found_some _ (rw (c.field-f.ensures.0, c.field-w.ensures.0) at
    (version-found _ _ _ _ (sym c.version.ensures ∙ c.in-Some.is)).0)))
