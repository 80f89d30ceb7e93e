-- `machine::read`: a place inside gives its value.
use mathlib.Core.Path.{refl, ap, ◌∙◌}
use Rattle.std.specs.Prelude.{Some}
use Rattle.machine.specs.declared.Place.{Place}
use Rattle.machine.proofs.Places.{read-inside, read-outside}
use Rattle.machine.proofs.read.Goals as goal

pub returns-in_err-place : goal.returns-in_err-place
returns-in_err-place c =
    let h = c.in_err-place.ensures.lookup in
    c.from_residual.ensures ∙ read-outside _ c.args.i _ refl (rw c.from.ensures at h.3)

pub returns : goal.returns
returns c =
    let h = rw c.from.ensures at c.in_ok-place.ensures.lookup in
    ap (λ (p : Place). Some p.value) h.1 ∙ read-inside _ c.args.i _ refl _ h.3.0
