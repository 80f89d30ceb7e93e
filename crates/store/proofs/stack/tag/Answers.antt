use mathlib.Core.Path.{refl}
use Rattle.store.specs.Store.{tag_of}
use Rattle.store.proofs.stack.tag.Goals as goal

pub returns-in-Call : goal.returns-in-Call
unfolding tag_of
returns-in-Call c =
    rw c.in-Call.is refl

pub returns-in-Force : goal.returns-in-Force
unfolding tag_of
returns-in-Force c =
    rw c.in-Force.is refl
