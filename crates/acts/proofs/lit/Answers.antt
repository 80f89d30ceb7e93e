use Rattle.machine.specs.Steps.{execute_to}
use mir.Facts.{to_z-of_z}
use Rattle.acts.proofs.lit.Goals as goal

pub returns : goal.returns
unfolding execute_to
returns c =
    let g = rw (to_z-of_z c.ranges.i) at c.assign_integer.ensures in
    (λ P W. g.0, g.1)
