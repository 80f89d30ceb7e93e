use Rattle.ending.proofs.Forces.{done-ends, forcing-still, full-ends, gone-ends, live-less, low-ends, none-ends, out-ends, waits}
use Rattle.ending.proofs.Answered.{comes_back, comes-stuck, left_back, left-stuck}
use Rattle.acts.proofs.Delayed.{live-from}
use Rattle.acts.proofs.Answers.{assigned-is, whole_is, whole-stuck}
use native.Mathlib.Omega.{arith}
use mathlib.Core.Path.{◌∙◌}
use mir.Val.{SFits}
use mir.Syntax.{w64}
use mir.Facts.{to_z-of_z}
use borrow.Author.Rules.{rules}
use Rattle.ending.proofs.end_force.Goals as goal

pub returns-in_default : goal.returns-in_default
returns-in_default c = (
  λ P W. comes-stuck _ _ (none-ends P W _ _ _ _ _ (whole-stuck c.integer.ensures c.in_default.is)),
  left-stuck _ _ _
      c.requires.0,
)

pub returns-then-q-ge64 : goal.returns-then-q-ge64
returns-then-q-ge64 c = (
  λ P W. comes-stuck _ _ (out-ends P W _ _ _ _ _ (whole_is c.integer.ensures c.in-Some.is)
      c.wide-q.ensures.0 c.if-q-ge64.true),
  left-stuck _ _ _ c.requires.0,
)

pub returns-then-depth-lt2 : goal.returns-then-depth-lt2
returns-then-depth-lt2 c = (
  λ P W. comes-stuck _ _ (low-ends P W c.args.bytes.now
      c.args.numbers.now _ _ _
      (whole_is c.integer.ensures c.in-Some.is)
      c.wide-q.ensures.0 c.if-q-ge64.false c.wide-depth.ensures.0 c.if-depth-lt2.true),
  left-stuck _ _ _
      c.requires.0,
)

pub activation-top-requires : goal.activation-top-requires
activation-top-requires c =
    omega (
      arith,
      c.wide-depth.ensures.0,
      c.requires.2.low,
      c.if-depth-lt2.false,
    )

pub activation-below-requires : goal.activation-below-requires
activation-below-requires c =
    omega (
      arith,
      c.wide-depth.ensures.0,
      c.requires.2.low,
      c.if-depth-lt2.false,
    )

pub returns-then-d-ge16 : goal.returns-then-d-ge16
returns-then-d-ge16 c = (
  λ P W. comes-stuck _ _
      (full-ends P W
      c.args.bytes.now
      c.args.numbers.now _ _ _
      (whole_is c.integer.ensures
      c.in-Some.is)
      c.wide-q.ensures.0
      c.if-q-ge64.false
      c.wide-depth.ensures.0
      c.if-depth-lt2.false
      c.requires.2.low
      c.activation-below.ensures c.wide-j.ensures.0
      (live-from _ _ _ c.is_live.ensures c.if-is_live.true)
      (waits _ c.wide-depth.ensures.0
      c.activation-top.ensures) c.if-d-ge16.true),
  left-stuck _ _ _
      c.requires.0,
)

pub set_cache-requires : goal.set_cache-requires
set_cache-requires c = (
  c.if-q-ge64.false,
  c.requires.0,
)

pub close_force-requires : goal.close_force-requires
close_force-requires c = (
  c.set_cache.ensures.1,
  forcing-still
      c.args.bytes.now _
      c.args.numbers.now _ _ _ c.set_cache.ensures.0
      c.requires.2,
)

pub assign_integer-requires : goal.assign_integer-requires
assign_integer-requires c = (
  c.close_force.ensures.1,
  live-less
      c.args.bytes.now _
      c.args.numbers.now _ _ _
      c.set_cache.ensures.0 _ c.close_force.ensures.0
      (live-from _ _ _ c.is_live.ensures
      c.if-is_live.true),
)

pub returns-else-d-ge16 : goal.returns-else-d-ge16
returns-else-d-ge16 c =
    let s : SFits w64
    c.in-Some.z = search (
      rules,
      c.in-Some.known_told-1-own.given,
    ) in
    let u = rw (to_z-of_z s) at c.set_cache.ensures.0 in
    let g = rw (to_z-of_z s) at c.assign_integer.ensures in
    let L = live-less
    c.args.bytes.now _
    c.args.numbers.now _ _ _
    c.set_cache.ensures.0 _ c.close_force.ensures.0
    (live-from _ _ _ c.is_live.ensures
    c.if-is_live.true) in (
      λ P W. comes_back _ _ _ _
          (done-ends P W
          c.args.bytes.now
          c.args.numbers.now _ _ _
          (whole_is c.integer.ensures
          c.in-Some.is)
          c.wide-q.ensures.0
          c.if-q-ge64.false
          c.wide-depth.ensures.0
          c.if-depth-lt2.false
          c.requires.2.low
          c.activation-below.ensures
          c.wide-j.ensures.0 _ _ _ u
          c.close_force.ensures.0
          (waits _ c.wide-depth.ensures.0
          c.activation-top.ensures)
          ∙ assigned-is _ _ _ _ _ _ _ _ L c.if-d-ge16.false g.0),
      left_back _ _ _ g.1,
    )

pub returns-else-is_live : goal.returns-else-is_live
returns-else-is_live c = (
  λ P W. comes-stuck _ _
      (gone-ends P W
      c.args.bytes.now
      c.args.numbers.now _ _ _
      (whole_is c.integer.ensures
      c.in-Some.is)
      c.wide-q.ensures.0
      c.if-q-ge64.false
      c.wide-depth.ensures.0 c.if-depth-lt2.false
      c.requires.2.low
      c.activation-below.ensures c.wide-j.ensures.0 _ c.is_live.ensures c.if-is_live.false),
  left-stuck _ _ _
      c.requires.0,
)
