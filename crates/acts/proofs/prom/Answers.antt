use Rattle.acts.proofs.Delayed.{delay-calls, prom-done, prom-full, prom-none, prom-out}
use Rattle.acts.proofs.Answers.{by, does-from, live-by, promise-free, promise-none, stays, stops}
use Rattle.store.proofs.Frames.{assign-in}
use Rattle.store.specs.Answers.{end_of}
use Rattle.store.specs.declared.Halt.{Halt}
use borrow.Author.Rules.{rules}
use Rattle.acts.proofs.prom.Goals as goal

pub returns-then-blocks-block : goal.returns-then-blocks-block
returns-then-blocks-block c =
    (λ P W T. stays _ _ (prom-out P W _ _ _ _ _ T c.if-blocks-block.true), c.requires.0)

pub returns-in_default : goal.returns-in_default
unfolding end_of
returns-in_default c = (
  λ P W T. stops _ _ Halt.Promises (prom-none P W c.args.bytes.now
      c.args.numbers.now _ _ _ T c.if-blocks-block.false
      (promise-none c.args.counts.now _ c.requires.0.counted
      c.free_promise.ensures c.in_default.is)),
  c.requires.0,
)

pub returns-then-d-ge16 : goal.returns-then-d-ge16
returns-then-d-ge16 c = (
  λ P W T. stays _ _ (prom-full P W c.args.bytes.now
      c.args.numbers.now _ _ _ T c.if-blocks-block.false
      (promise-free c.args.counts.now _ c.requires.0.counted
      c.free_promise.ensures c.in-Some.is).0 c.requires.1
      c.if-d-ge16.true),
  c.requires.0,
)

pub make_promise-requires : goal.make_promise-requires
make_promise-requires c = (
  (promise-free c.args.counts.now _
      c.requires.0.counted c.free_promise.ensures
      c.in-Some.is).1,
  c.requires.0,
)

pub overflow_cast-p : goal.overflow_cast-p
overflow_cast-p c =
    let f = (promise-free c.args.counts.now _
    c.requires.0.counted
    c.free_promise.ensures
    c.in-Some.is).1 in search rules

pub assign_promise-requires : goal.assign_promise-requires
assign_promise-requires c = (
  c.make_promise.ensures.1,
  live-by _ _ _ _ c.requires.1
      (delay-calls _ _ _ _ _ c.make_promise.ensures.0),
)

pub returns : goal.returns
returns c =
    let f = promise-free c.args.counts.now _
    c.requires.0.counted
    c.free_promise.ensures
    c.in-Some.is in
    let L = live-by _ _ _ _ c.requires.1
    (delay-calls _ _ _ _ _ c.make_promise.ensures.0) in (
      λ P W T. by _ _ _ _ _ (prom-done P W c.args.bytes.now
          c.args.numbers.now _ _ _ T
          c.if-blocks-block.false f.0 c.make_promise.ensures.0)
          (does-from _ _ _ _ _ _ _ _ c.assign_promise.ensures.0 (assign-in _ _ _ _ _ L c.if-d-ge16.false).1),
      c.assign_promise.ensures.1,
    )
