use Rattle.turning.proofs.Looking.{chosen-full, opens-stuck, opens-undef, opens-version}
use Rattle.turning.proofs.enters.Goals as goal

pub enter-requires : goal.enter-requires
enter-requires c = (
  c.requires.0,
  c.requires.1,
  chosen-full _ _ _ _ _ _ _
      c.requires.2 c.in-Ok.is,
)

pub returns-in-Ok : goal.returns-in-Ok
returns-in-Ok c =
    opens-version _ _ _ _ _ _ _ _ _ _ _ _ _ c.in-Ok.is c.opened.ensures c.enter.ensures

pub returns-in-Err-Undef : goal.returns-in-Err-Undef
returns-in-Err-Undef c =
    opens-undef _ _ _ _ _ _ _ _ c.in-Err-Undef.is (rw c.in-Err-Undef.is at c.in-Err-Undef.field-0-is)

pub returns-in-Err-Stuck : goal.returns-in-Err-Stuck
returns-in-Err-Stuck c =
    opens-stuck _ _ _ _ _ _ _ _ c.in-Err-Stuck.is (rw c.in-Err-Stuck.is at c.in-Err-Stuck.field-0-is)
