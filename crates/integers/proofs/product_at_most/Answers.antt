-- `integers::product_at_most`: by one division.
use Prim.Native.Nat.{◌<◌, zero-le}
use Rattle.integers.proofs.Ranges.{at-most}
use borrow.Author.Tests.{le-leb}
use mathlib.Core.Path.{◌≡◌, sym}
use native.Mathlib.Nat.{zero-mul}
use native.Mathlib.Omega.{arith}
use Rattle.integers.proofs.product_at_most.Goals as goal

pub returns-then-a-eq0 : goal.returns-then-a-eq0
returns-then-a-eq0 c =
    let z : c.args.a ≡ 0 = c.if-a-eq0.true in
    sym (rw (z, zero-mul c.args.b) (le-leb 0 c.args.n zero-le))

pub returns : goal.returns
returns c =
    let h : 0 < c.args.a = omega (arith, c.if-a-eq0.false) in
    at-most c.args.a c.args.b c.args.n h
