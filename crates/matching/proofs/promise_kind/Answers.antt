use native.Mathlib.Omega.{arith}
use Rattle.acts.proofs.Delayed.{live-from}
use mathlib.Core.Path.{◌∙◌}
use Rattle.matching.proofs.Kinding.{promise-out, promise-gone, version-gone, block-gone, block-there, no_kind, promise-valued}
use Rattle.matching.proofs.promise_kind.Goals as goal

pub returns-then-i-ge64 : goal.returns-then-i-ge64
returns-then-i-ge64 c =
    (λ n. promise-out _ _ _ n _ c.if-i-ge64.true, no_kind)

pub bounds-bytes-j : goal.bounds-bytes-j
bounds-bytes-j c =
    let l = live-from _ _ _ c.is_live.ensures c.if-is_live.true in omega (arith, l.0)

pub bounds-bytes-j-then-is_live : goal.bounds-bytes-j-then-is_live
bounds-bytes-j-then-is_live c =
    let l = live-from _ _ _ c.is_live.ensures c.if-is_live.true in omega (arith, l.0)

pub returns-in_default : goal.returns-in_default
returns-in_default c = (
  λ n. version-gone c.args.image.now
      c.args.table.now
      c.args.bytes.now n _
      c.if-i-ge64.false c.wide-j.ensures.0 _
      c.is_live.ensures c.if-is_live.true (c.version.ensures _)
      c.in_default.is,
  no_kind,
)

pub returns-in_default-block : goal.returns-in_default-block
returns-in_default-block c = (
  λ n. block-gone c.args.image.now
      c.args.table.now
      c.args.bytes.now n _
      c.if-i-ge64.false
      c.wide-j.ensures.0 _
      c.is_live.ensures
      c.if-is_live.true (c.version.ensures _)
      c.in-Some.is c.block.ensures c.in_default-block.is,
  no_kind,
)

pub returns-in-Some-block : goal.returns-in-Some-block
returns-in-Some-block c = (
  λ n. block-there
      c.args.image.now
      c.args.table.now
      c.args.bytes.now n _
      c.if-i-ge64.false
      c.wide-j.ensures.0 _
      c.is_live.ensures
      c.if-is_live.true
      (c.version.ensures _)
      c.in-Some.is c.block.ensures
      c.in-Some-block.is (c.wide.ensures.0 ∙ c.mark_at.ensures.0 _),
  promise-valued c.wide.ensures.0 c.mark_at.ensures.1,
)

pub returns-else-is_live : goal.returns-else-is_live
returns-else-is_live c =
    (λ n. promise-gone _ _ _ n _ c.if-i-ge64.false c.wide-j.ensures.0 _ c.is_live.ensures c.if-is_live.false, no_kind)
