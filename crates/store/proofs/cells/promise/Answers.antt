use native.Mathlib.Omega.{arith}
use Rattle.store.specs.Acts.{Narrow}
use Rattle.store.proofs.Frames.{read-holds, read-outside, register-goes}
use Rattle.store.specs.Answers.{found_of}
use Rattle.machine.specs.Try.{◌>>=◌}
use Rattle.machine.specs.States.{promise}
use mathlib.Core.Path.{refl}
use Rattle.store.proofs.cells.promise.Goals as goal

pub returns : goal.returns
unfolding promise ◌>>=◌
returns c =
    (rw (read-holds c.register.ensures c.in_ok-register.was) c.promise_of.ensures.0, c.promise_of.ensures.1)

pub returns-in_err-register : goal.returns-in_err-register
unfolding promise ◌>>=◌ found_of Narrow
returns-in_err-register c =
    rw (c.from_residual.ensures, read-outside c.register.ensures c.in_err-register.was (register-goes _ _ _ _)) (refl, omega arith)
