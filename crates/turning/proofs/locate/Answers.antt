use Rattle.turning.proofs.Locating.{framed-by, lost-frame}
use native.Mathlib.Omega.{arith}
use Rattle.turning.proofs.Locating.{lost-by, none_open, too_many}
use Rattle.turning.proofs.locate.Goals as goal

pub returns-then-depth-eq0 : goal.returns-then-depth-eq0
returns-then-depth-eq0 c =
    let d = c.wide-depth.ensures.0 in
    let z = c.if-depth-eq0.true in
    lost-by _ _ _ _ _ c.nowhere.ensures (λ n. none_open _ _ _ _ n (omega (arith, d, z)))

pub returns-then-depth-gt32 : goal.returns-then-depth-gt32
returns-then-depth-gt32 c =
    let d = c.wide-depth.ensures.0 in
    let z = c.if-depth-gt32.true in
    lost-by _ _ _ _ _ c.nowhere-then-depth-gt32.ensures (λ n. too_many _ _ _ _ n (omega (arith, d, z)))

pub framed-requires : goal.framed-requires
framed-requires c =
    framed-by _ _ c.wide-depth.ensures.0 c.if-depth-eq0.false
    c.if-depth-gt32.false c.activation-a.ensures c.wide-k.ensures.0 c.is_live.ensures
    c.if-is_live.true

pub returns-else-is_live : goal.returns-else-is_live
returns-else-is_live c =
    lost-by _ _ _ _ _ c.nowhere-else-is_live.ensures (lost-frame _ _ c.wide-depth.ensures.0
    c.if-depth-eq0.false c.if-depth-gt32.false c.activation-a.ensures
    c.wide-k.ensures.0 c.is_live.ensures _ _ _ c.if-is_live.false)
