use Rattle.listing.proofs.Entry.{enter-deep, enter-done, enter-full, goes_on, new-live, pass-calls, room-left}
use Rattle.acts.proofs.Answers.{live-by, stays, stops}
use Rattle.store.specs.Answers.{end_of}
use Rattle.store.specs.declared.Halt.{Halt}
use native.Mathlib.Omega.{arith}
use Rattle.listing.proofs.enter.Goals as goal

pub returns-then-bytes-ge32 : goal.returns-then-bytes-ge32
unfolding end_of
returns-then-bytes-ge32 c = (
  λ W o p q. stops _ _ Halt.Deep (enter-deep W c.args.bytes.now c.args.numbers.now _ _ _
      c.requires.2 c.if-bytes-ge32.true),
  c.requires.0,
)

pub returns-then-calls-ge32 : goal.returns-then-calls-ge32
returns-then-calls-ge32 c = (
  λ W o p q. stays _ _ (enter-full W c.args.bytes.now c.args.numbers.now _ _ _
      c.requires.2 c.if-bytes-ge32.false c.if-calls-ge32.true),
  c.requires.0,
)

pub push-requires : goal.push-requires
push-requires c =
    c.requires.0

pub open-requires : goal.open-requires
open-requires c = (
  room-left c.args.bytes.now _ _ _ _
      c.if-bytes-ge32.false c.push.ensures.0
      c.if-calls-ge32.false,
  c.push.ensures.1,
)

pub pass-requires : goal.pass-requires
pass-requires c = (
  c.«open».ensures.1,
  omega (
    arith,
    c.requires.1.1,
    c.wide.ensures.0,
  ),
  new-live
      c.args.bytes.now _ _ _ _
      c.if-bytes-ge32.false
      c.push.ensures.0 _ _ c.wide.ensures.0
      c.if-calls-ge32.false c.«open».ensures.0,
  c.requires.2.1,
)

pub empty-requires : goal.empty-requires
empty-requires c =
    let L = new-live
    c.args.bytes.now _ _ _ _
    c.if-bytes-ge32.false
    c.push.ensures.0 _ _ c.wide.ensures.0
    c.if-calls-ge32.false
    c.«open».ensures.0 in
    let K = live-by _ _ _ _ L (pass-calls _ _ _ _ c.pass.ensures.0) in (
      c.pass.ensures.1,
      (
        c.requires.1.0,
        omega (
          arith,
          K.1,
          c.requires.1.1,
          c.wide.ensures.0,
        ),
      ),
      c.requires.2.1,
    )

pub returns : goal.returns
returns c = (
  λ W o p q. goes_on _ _ _ _
      (enter-done W
      c.args.bytes.now
      c.args.numbers.now _ _ _
      c.requires.2 _ _ _ _ _ _ _ o p q
      c.if-bytes-ge32.false
      c.if-calls-ge32.false
      c.requires.1.1 c.push.ensures.0
      c.wide.ensures.0 c.«open».ensures.0
      c.pass.ensures.0 c.empty.ensures.0),
  c.empty.ensures.1,
)
