-- `moves::other_form`: one for each form.
use mathlib.Core.Path.{refl}
use Rattle.layout.specs.Forms.{other}
use Rattle.moves.proofs.other_form.Goals as goal

pub returns-in-Narrow : goal.returns-in-Narrow
unfolding other
returns-in-Narrow c =
    rw c.in-Narrow.is refl

pub returns-in-Wide : goal.returns-in-Wide
unfolding other
returns-in-Wide c =
    rw c.in-Wide.is refl
