-- `typing::fits::dispatch_fits`: the arguments are its own pairs.
use Rattle.layout.specs.Records.{choose}
use Rattle.program.specs.Program.{instr_by}
use Rattle.typing.proofs.Pairs.{dispatch-arguments}
use Rattle.rules.specs.Fits.{fits}
use mathlib.Core.Path.{refl, ◌∙◌}
use Rattle.typing.proofs.fits.dispatch_fits.Goals as goal

pub call_fits-requires : goal.call_fits-requires
call_fits-requires c =
    c.of_dispatch.ensures.1

pub returns : goal.returns
unfolding fits instr_by choose
returns c =
    c.call_fits.ensures ∙ rw (c.of_dispatch.ensures.0, c.field.ensures.0, ← dispatch-arguments) refl
