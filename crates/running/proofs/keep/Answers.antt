use Rattle.turning.proofs.Turning.{stored-now}
use native.Mathlib.Omega.{arith}
use mathlib.Core.Path.{refl}
use Rattle.running.proofs.keep.Goals as goal

pub store_next-requires : goal.store_next-requires
store_next-requires c =
    let z = c.if-spot-ne0.true in
    let S = c.requires (omega (arith, z)) in
    let w = S.near in
    (S.deep, S.low, S.first, omega (arith, w), S.small, omega arith)

pub returns-then-spot-ne0 : goal.returns-then-spot-ne0
returns-then-spot-ne0 c =
    let z = c.if-spot-ne0.true in
    record {
      here = λ _. stored-now c.args.bytes.now _ c.args.spot
          c.store_next.ensures;
      lost = λ e. absurd (z e);
    }

pub returns-else-spot-ne0 : goal.returns-else-spot-ne0
returns-else-spot-ne0 c =
    let z = c.if-spot-ne0.false in
    record { here = λ l. absurd (omega (arith, z, l)); lost = λ _. refl }
