use mathlib.Core.Path.{refl}
use Rattle.ending.specs.Ends.{stop_byte}
use Rattle.ending.proofs.status.Goals as goal

pub returns-in-Undef : goal.returns-in-Undef
unfolding stop_byte
returns-in-Undef c =
    rw c.in-Undef.is refl

pub returns-in-Deep : goal.returns-in-Deep
unfolding stop_byte
returns-in-Deep c =
    rw c.in-Deep.is refl

pub returns-in-Vectors : goal.returns-in-Vectors
unfolding stop_byte
returns-in-Vectors c =
    rw c.in-Vectors.is refl

pub returns-in-Promises : goal.returns-in-Promises
unfolding stop_byte
returns-in-Promises c =
    rw c.in-Promises.is refl
