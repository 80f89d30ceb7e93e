use Rattle.turning.proofs.Looking.{end-here}
use native.Mathlib.Omega.{arith}
use Rattle.turning.proofs.Looking.{stands_by, turned_by, turned_none}
use Rattle.turning.proofs.rest.Goals as goal

pub looks-requires : goal.looks-requires
looks-requires c = (
  c.requires.0,
  stands_by _ _ _ _ _ c.requires.1
      c.if-spot.true,
  c.requires.3 c.if-spot.true,
  c.requires.2,
)

pub returns-then-spot : goal.returns-then-spot
returns-then-spot c =
    let l = c.if-spot.true in
    (turned_by _ _ _ _ _ _ _ _ _ (omega (arith, l)) c.looks.ensures.0, c.looks.ensures.1)

pub ends-requires : goal.ends-requires
ends-requires c = (
  c.requires.0,
  c.requires.1.here
      (end-here _ _ _ _ _ c.requires.1 c.if-spot-2.true),
  c.if-spot-2.true,
)

pub returns-then-spot-2 : goal.returns-then-spot-2
returns-then-spot-2 c = (
  turned_by _ _ _ _ _ _ _ _ _ (end-here _ _ _ _ _ c.requires.1
      c.if-spot-2.true) c.ends.ensures,
  c.requires.2,
)

pub returns : goal.returns
returns c = (
  turned_none _ _ _ _ _ _ c.requires.0 c.requires.1
      (λ l. let z = c.if-spot.false in omega (arith, l, z)) c.if-spot-2.false,
  c.requires.2,
)
