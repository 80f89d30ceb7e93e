-- `watches::mark`: by the look-ups of the version and the block.
use mathlib.Core.Path.{refl}
use native.Mathlib.Omega.{arith}
use Rattle.watches.proofs.Records.{is-there, no-promise, frame-gone, version-gone, block-gone, block-there}
use Rattle.watches.proofs.mark.Goals as goal

pub returns-then-i-ge-PROMISES : goal.returns-then-i-ge-PROMISES
returns-then-i-ge-PROMISES c =
    λ n. no-promise _ _ _ n _ c.if-i-ge-PROMISES.true

pub bounds-bytes-j : goal.bounds-bytes-j
bounds-bytes-j c =
    let l = is-there _ _ c.is_live.ensures c.if-is_live.true in omega (arith, l)

pub bounds-bytes-j-then-is_live : goal.bounds-bytes-j-then-is_live
bounds-bytes-j-then-is_live c =
    let l = is-there _ _ c.is_live.ensures c.if-is_live.true in omega (arith, l)

pub returns-in_default : goal.returns-in_default
returns-in_default c =
    λ n. version-gone _ _ _ n _ c.if-i-ge-PROMISES.false c.wide-j.ensures.0 c.is_live.ensures c.if-is_live.true _ (c.version.ensures _)
    c.in_default.is

pub returns-in_default-block : goal.returns-in_default-block
returns-in_default-block c =
    λ n. block-gone _ _ _ n _ c.if-i-ge-PROMISES.false c.wide-j.ensures.0 c.is_live.ensures
    c.if-is_live.true _ (c.version.ensures _) c.in-Some.is refl _ c.block.ensures c.in_default-block.is

pub returns-in-Some-block : goal.returns-in-Some-block
returns-in-Some-block c =
    λ n. block-there _ _ _ n _ c.if-i-ge-PROMISES.false c.wide-j.ensures.0
    c.is_live.ensures c.if-is_live.true _ (c.version.ensures _)
    c.in-Some.is refl _ c.block.ensures c.in-Some-block.is (c.mark_at.ensures.0 _)

pub returns-else-is_live : goal.returns-else-is_live
returns-else-is_live c =
    λ n. frame-gone _ _ _ n _ c.if-i-ge-PROMISES.false c.wide-j.ensures.0 c.is_live.ensures c.if-is_live.false
