use mir.Facts.{to_z-of_z}
use Rattle.integers.specs.Computed.{is_minus_one}
use Rattle.machine.specs.Values.{is_zero}
use Rattle.integers.proofs.Signs.{told}
use Rattle.integers.proofs.Floors.{floor-fits, negated}
use Rattle.integers.proofs.Answers.{by_zero, not-by-zero, in-range}
use borrow.Author.Tests.{lt-ltb}
use Rattle.integers.proofs.divide.Goals as goal

pub returns-then-is_zero : goal.returns-then-is_zero
returns-then-is_zero c =
    by_zero _ _ (told is_zero c.ranges.y c.is_zero.ensures c.if-is_zero.true)

pub returns-then-is_minus_one : goal.returns-then-is_minus_one
returns-then-is_minus_one c =
    let p = c.ranges.x in
    let q = c.ranges.y in
    let not-zero = told is_zero q c.is_zero.ensures c.if-is_zero.false in
    rw (to_z-of_z p, negated _ _ (told is_minus_one q c.is_minus_one.ensures c.if-is_minus_one.true), not-by-zero _ _ not-zero) at c.subtract.ensures

pub floor-requires : goal.floor-requires
floor-requires c =
    let q = c.ranges.y in
    rw (to_z-of_z q) (told is_zero q c.is_zero.ensures c.if-is_zero.false, told is_minus_one q c.is_minus_one.ensures c.if-is_minus_one.false)

pub returns : goal.returns
returns c =
    let p = c.ranges.x in
    let q = c.ranges.y in
    let not-zero = told is_zero q c.is_zero.ensures c.if-is_zero.false in
    let f = floor-fits _ p (told is_minus_one q c.is_minus_one.ensures c.if-is_minus_one.false) in
    let r = rw (to_z-of_z p, to_z-of_z q) at c.floor.ensures in
    rw (r, to_z-of_z f, ← not-by-zero _ _ not-zero) (in-range _ (lt-ltb _ _ f.sfits))
