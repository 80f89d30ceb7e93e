-- `bounds::counts::add`: the capped sum.
use mathlib.Core.Path.{◌≡◌, ◌∙◌}
use Prim.Native.Nat.{◌+◌, min}
use native.Mathlib.Omega.{arith}
use Rattle.bounds.proofs.Caps.{min-cap}
use Rattle.bounds.proofs.counts.add.Goals as goal

pub returns : goal.returns
returns c =
    let both : c.min.result ≡ min (c.args.a + c.args.b) 4294967296 = omega (arith, c.min.ensures, c.saturating_add.ensures) in
    (both ∙ min-cap (c.args.a + c.args.b), omega (arith, both))
