-- `mends::type_byte`: by the place in the list.
use native.Mathlib.Omega.{arith}
use mathlib.Core.Path.{◌≡◌, sym, ap}
use Prim.Native.Nat.{ℕ}
use Rattle.layout.specs.Records.{◌!◌}
use Rattle.mends.specs.Parts.{TYPES}
use Rattle.mends.proofs.Parts.{low-types}
use Rattle.mends.proofs.type_byte.Goals as goal

pub overflow_cast-result : goal.overflow_cast-result
overflow_cast-result c =
    omega (arith, c.if-i-lt6.true)

pub returns-then-i-lt6 : goal.returns-then-i-lt6
returns-then-i-lt6 c =
    sym (low-types c.args.i c.if-i-lt6.true)

pub returns-then-i-eq6 : goal.returns-then-i-eq6
returns-then-i-eq6 c =
    ap (λ (i : ℕ). TYPES ! i) (sym c.if-i-eq6.true)

pub returns : goal.returns
returns c =
    let e : c.args.i ≡ 7 = omega (arith, c.if-i-lt6.false, c.if-i-eq6.false, c.requires) in
    ap (λ (i : ℕ). TYPES ! i) (sym e)
