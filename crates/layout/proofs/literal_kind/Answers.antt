-- `layout::literal_kind`: one for each form.
use Rattle.layout.specs.Forms.{literal_kind}
use mathlib.Core.Path.{refl}
use Rattle.layout.proofs.literal_kind.Goals as goal

pub returns-in-Narrow : goal.returns-in-Narrow
unfolding literal_kind
returns-in-Narrow c =
    rw c.in-Narrow.is refl

pub returns-in-Wide : goal.returns-in-Wide
unfolding literal_kind
returns-in-Wide c =
    rw c.in-Wide.is refl
