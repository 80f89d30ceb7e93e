use Rattle.machine.specs.Steps.{execute_to}
use Rattle.acts.proofs.named.Goals as goal

pub returns : goal.returns
unfolding execute_to
returns c =
    (λ P W. c.assign_name.ensures.0, c.assign_name.ensures.1)
