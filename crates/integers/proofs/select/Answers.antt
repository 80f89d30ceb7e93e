-- `integers::select`: by the test.
use Rattle.integers.proofs.Signs.{told}
use Rattle.machine.specs.Values.{is_zero}
use mir.Facts.{to_z-of_z}
use Rattle.integers.proofs.select.Goals as goal

pub returns-then-is_zero : goal.returns-then-is_zero
returns-then-is_zero c =
    let start = c.ranges in
    rw (told is_zero start.c c.is_zero.ensures c.if-is_zero.true) (to_z-of_z start.b)

pub returns : goal.returns
returns c =
    let start = c.ranges in
    rw (told is_zero start.c c.is_zero.ensures c.if-is_zero.false) (to_z-of_z start.a)
