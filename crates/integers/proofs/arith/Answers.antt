-- `integers::arith`: by the operation.
use Rattle.layout.specs.Records.{choose}
use Rattle.machine.specs.Values.{arith_to}
use Rattle.integers.specs.Computed.{computed_of}
use mir.Facts.{to_z-of_z}
use borrow.Author.Tests.{ne_eqb}
use Rattle.integers.proofs.arith.Goals as goal

pub returns-in-0 : goal.returns-in-0
unfolding arith_to choose
returns-in-0 c =
    let start = c.ranges in
    rw c.in-0.is (rw (to_z-of_z start.x, to_z-of_z start.y) at c.add.ensures)

pub returns-in-1 : goal.returns-in-1
unfolding arith_to choose
returns-in-1 c =
    let start = c.ranges in
    rw c.in-1.is (rw (to_z-of_z start.x, to_z-of_z start.y) at c.subtract.ensures)

pub returns-in-2 : goal.returns-in-2
unfolding arith_to choose
returns-in-2 c =
    let start = c.ranges in
    rw c.in-2.is (rw (to_z-of_z start.x, to_z-of_z start.y) at c.multiply.ensures)

pub returns-in-3 : goal.returns-in-3
unfolding arith_to choose
returns-in-3 c =
    let start = c.ranges in
    rw c.in-3.is (rw (to_z-of_z start.x, to_z-of_z start.y) at c.divide.ensures)

pub returns-in-4 : goal.returns-in-4
unfolding arith_to choose
returns-in-4 c =
    let start = c.ranges in
    rw c.in-4.is (rw (to_z-of_z start.x, to_z-of_z start.y) at c.less.ensures)

pub returns-in_default : goal.returns-in_default
unfolding arith_to choose computed_of
returns-in_default c =
    let is-not = c.in_default.in_default-own.rest in
    simp (ne_eqb _ _ is-not.0.0.0.0.1, ne_eqb _ _ is-not.0.0.0.1, ne_eqb _ _ is-not.0.0.1, ne_eqb _ _ is-not.0.1, ne_eqb _ _ is-not.1)
