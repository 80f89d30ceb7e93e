-- `layout::kind_at`: the two bytes behind the length.
use Prim.Native.Nat.{◌+◌}
use Rattle.layout.proofs.Walk.{kind-at, kind-outside}
use mathlib.Core.Path.{sym, ◌≡◌}
use native.Mathlib.Omega.{arith}
use Rattle.layout.proofs.kind_at.Goals as goal

pub returns-then-image-p : goal.returns-then-image-p
returns-then-image-p c =
    sym (kind-outside _ _ c.if-image-p.true)

pub returns : goal.returns
returns c =
    let s = c.args.image.now in
    let p = c.args.p in
    let e : p + 3 ≡ p + 2 + 1 = omega arith in
    omega (arith, c.byte.ensures.0, rw e at c.byte-2.ensures.0, kind-at s p)
