use mathlib.Core.Path.{refl}
use native.Mathlib.Omega.{arith}
use Rattle.turning.proofs.Turning.{quick-rest}
use Rattle.turning.proofs.quick.Goals as goal

pub line-requires : goal.line-requires
line-requires c = (
  c.requires.0,
  c.requires.1 c.if-spot.true,
  c.if-spot.true,
)

pub returns-then-spot : goal.returns-then-spot
returns-then-spot c =
    (c.line.ensures, λ h. absurd (h c.if-spot.true))

pub returns : goal.returns
returns c =
    let z = c.if-spot.false in
    (quick-rest _ _ _ _ _ c.requires.0 (λ l. absurd (omega (arith, z, l))), λ _. refl)
