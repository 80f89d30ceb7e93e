use Rattle.machine.specs.Steps.{execute_to}
use Rattle.acts.proofs.store_name.Goals as goal

pub returns : goal.returns
unfolding execute_to
returns c =
    (λ P W. c.store_register.ensures.0, c.store_register.ensures.1)
