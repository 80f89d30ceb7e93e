use mir.Facts.{to_z-of_z}
use Rattle.integers.proofs.Signs.{bits_above}
use Rattle.integers.proofs.Floors.{floor-up, floor-down, floor-below, floor-above, floor-zero, floor-fits, up_fits, down_fits, quot-up-fits, quot-down-fits}
use Rattle.integers.proofs.floor.Goals as goal

pub overflow_add-result : goal.overflow_add-result
overflow_add-result c =
    let p = c.ranges.x in
    rw (to_z-of_z p) (up_fits p (rw (to_z-of_z p) at c.if-x-lt0.true))

pub nonzero_div-result : goal.nonzero_div-result
nonzero_div-result c =
    let p = c.ranges.x in
    let q = c.ranges.y in
    let e = rw (to_z-of_z p) at c.if-x-lt0.true in
    let h = rw (to_z-of_z q) at c.if-y-gt0.true in
    (bits_above _ q c.requires.0, rw (to_z-of_z p, to_z-of_z q, to_z-of_z (up_fits p e)) (quot-up-fits _ p e h))

pub overflow_sub-result : goal.overflow_sub-result
overflow_sub-result c =
    let p = c.ranges.x in
    let q = c.ranges.y in
    let e = rw (to_z-of_z p) at c.if-x-lt0.true in
    let h = rw (to_z-of_z q) at c.if-y-gt0.true in
    rw (to_z-of_z p, to_z-of_z q, to_z-of_z (up_fits p e), to_z-of_z (quot-up-fits c.args.y p e h), floor-up c.args.x c.args.y e h) (floor-fits _ p c.requires.1)

pub returns-then-y-gt0 : goal.returns-then-y-gt0
returns-then-y-gt0 c =
    let p = c.ranges.x in
    let q = c.ranges.y in
    let e = rw (to_z-of_z p) at c.if-x-lt0.true in
    let h = rw (to_z-of_z q) at c.if-y-gt0.true in
    rw (to_z-of_z p, to_z-of_z q, to_z-of_z (up_fits p e), to_z-of_z (quot-up-fits c.args.y p e h), floor-up c.args.x c.args.y e h) (to_z-of_z (floor-fits _ p c.requires.1))

pub nonzero_div-result-then-x-lt0 : goal.nonzero_div-result-then-x-lt0
nonzero_div-result-then-x-lt0 c =
    let p = c.ranges.x in
    let q = c.ranges.y in
    let z = c.requires.0 in
    (bits_above _ q z, rw (to_z-of_z p, to_z-of_z q, floor-below _ _ (rw (to_z-of_z p) at c.if-x-lt0.true) (rw (to_z-of_z q) at c.if-y-gt0.false) z) (floor-fits _ p c.requires.1))

pub returns-then-x-lt0 : goal.returns-then-x-lt0
returns-then-x-lt0 c =
    let p = c.ranges.x in
    let q = c.ranges.y in
    let z = c.requires.0 in
    rw (to_z-of_z p, to_z-of_z q, floor-below _ _ (rw (to_z-of_z p) at c.if-x-lt0.true) (rw (to_z-of_z q) at c.if-y-gt0.false) z) (to_z-of_z (floor-fits _ p c.requires.1))

pub overflow_sub-result-then-y-lt0 : goal.overflow_sub-result-then-y-lt0
overflow_sub-result-then-y-lt0 c =
    let p = c.ranges.x in
    rw (to_z-of_z p) (down_fits p (rw (to_z-of_z p) at c.if-x-gt0.true))

pub nonzero_div-result-then-y-lt0 : goal.nonzero_div-result-then-y-lt0
nonzero_div-result-then-y-lt0 c =
    let p = c.ranges.x in
    let q = c.ranges.y in
    let e = rw (to_z-of_z p) at c.if-x-gt0.true in
    let h = rw (to_z-of_z q) at c.if-y-lt0.true in
    (bits_above _ q c.requires.0, rw (to_z-of_z p, to_z-of_z q, to_z-of_z (down_fits p e)) (quot-down-fits _ p e h))

pub overflow_sub-result-then-y-lt0-2 : goal.overflow_sub-result-then-y-lt0-2
overflow_sub-result-then-y-lt0-2 c =
    let p = c.ranges.x in
    let q = c.ranges.y in
    let e = rw (to_z-of_z p) at c.if-x-gt0.true in
    let h = rw (to_z-of_z q) at c.if-y-lt0.true in
    rw (to_z-of_z p, to_z-of_z q, to_z-of_z (down_fits p e), to_z-of_z (quot-down-fits c.args.y p e h), floor-down c.args.x c.args.y e h) (floor-fits _ p c.requires.1)

pub returns-then-y-lt0 : goal.returns-then-y-lt0
returns-then-y-lt0 c =
    let p = c.ranges.x in
    let q = c.ranges.y in
    let e = rw (to_z-of_z p) at c.if-x-gt0.true in
    let h = rw (to_z-of_z q) at c.if-y-lt0.true in
    rw (to_z-of_z p, to_z-of_z q, to_z-of_z (down_fits p e), to_z-of_z (quot-down-fits c.args.y p e h), floor-down c.args.x c.args.y e h) (to_z-of_z (floor-fits _ p c.requires.1))

pub nonzero_div-result-then-x-gt0 : goal.nonzero_div-result-then-x-gt0
nonzero_div-result-then-x-gt0 c =
    let p = c.ranges.x in
    let q = c.ranges.y in
    (bits_above _ q c.requires.0, rw (to_z-of_z p, to_z-of_z q, floor-above _ _ (rw (to_z-of_z p) at c.if-x-lt0.false) (rw (to_z-of_z q) at c.if-y-lt0.false)) (floor-fits _ p c.requires.1))

pub returns-then-x-gt0 : goal.returns-then-x-gt0
returns-then-x-gt0 c =
    let p = c.ranges.x in
    let q = c.ranges.y in
    rw (to_z-of_z p, to_z-of_z q, floor-above _ _ (rw (to_z-of_z p) at c.if-x-lt0.false) (rw (to_z-of_z q) at c.if-y-lt0.false)) (to_z-of_z (floor-fits _ p c.requires.1))

pub returns : goal.returns
returns c =
    let p = c.ranges.x in
    floor-zero _ _ (rw (to_z-of_z p) at c.if-x-lt0.false) (rw (to_z-of_z p) at c.if-x-gt0.false)
