use mathlib.Core.Path.{refl}
use Rattle.store.specs.Store.{forced_by}
use Rattle.store.proofs.stack.forced.Goals as goal

pub returns-in-Call : goal.returns-in-Call
unfolding forced_by
returns-in-Call c =
    rw c.in-Call.is refl

pub returns-in-Force : goal.returns-in-Force
unfolding forced_by
returns-in-Force c =
    rw c.in-Force.is refl
