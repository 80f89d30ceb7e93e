use Rattle.std.specs.Prelude.{Some}
use mathlib.Core.Path.{refl, ap}
use Rattle.machine.specs.Frames.{read_of}
use Rattle.store.proofs.Frames.{register-in, register-out}
use Rattle.store.proofs.cells.register.Goals as goal

pub returns-then-c-lt16 : goal.returns-then-c-lt16
unfolding read_of
returns-then-c-lt16 c =
    rw (register-in _ _ _ _ c.if-c-lt16.true) (ap Some c.cell-v.ensures.0)

pub returns-else-c-lt16 : goal.returns-else-c-lt16
unfolding read_of
returns-else-c-lt16 c =
    rw (register-out _ _ _ _ c.if-c-lt16.false) refl
