use mathlib.Core.Path.{refl}
use Rattle.store.specs.Answers.{whole_of}
use Rattle.machine.specs.Try.{◌>>=◌}
use Rattle.machine.specs.States.{integer}
use Rattle.store.proofs.Frames.{read-holds, read-outside, register-goes}
use Rattle.store.proofs.cells.integer.Goals as goal

pub returns : goal.returns
unfolding integer ◌>>=◌
returns c =
    rw (read-holds c.register.ensures c.in_ok-register.was) c.whole.ensures

pub returns-in_err-register : goal.returns-in_err-register
unfolding integer ◌>>=◌ whole_of
returns-in_err-register c =
    rw (c.from_residual.ensures, read-outside c.register.ensures c.in_err-register.was (register-goes _ _ _ _)) refl
