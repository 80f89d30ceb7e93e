-- `integers::index`: by the sign and the length.
use Rattle.integers.proofs.Answers.{negative, natural, inside, outside}
use native.Mathlib.Omega.{arith}
use mir.Facts.{to_z-of_z, Fits-nat_abs}
use Rattle.integers.proofs.index.Goals as goal

pub returns-then-z-lt0 : goal.returns-then-z-lt0
returns-then-z-lt0 c = negative c.args.z _ _ tt (rw (to_z-of_z c.ranges.z) at c.if-z-lt0.true)

pub overflow_cast-i : goal.overflow_cast-i
overflow_cast-i c =
    let z = c.ranges.z in
    rw (to_z-of_z z) (natural c.args.z _ tt (rw (to_z-of_z z) at c.if-z-lt0.false), Fits-nat_abs tt z)

pub returns-then-i-n : goal.returns-then-i-n
returns-then-i-n c =
    let z = to_z-of_z c.ranges.z in
    let n = natural c.args.z _ tt (rw z at c.if-z-lt0.false) in
    rw z (inside c.args.z c.args.n n (omega (arith, rw z at c.if-i-n.true)))

pub returns-else-i-n : goal.returns-else-i-n
returns-else-i-n c =
    let z = to_z-of_z c.ranges.z in
    let n = natural c.args.z _ tt (rw z at c.if-z-lt0.false) in
    outside c.args.z c.args.n n (omega (arith, rw z at c.if-i-n.false))
