use Rattle.acts.proofs.Clauses.{force-cached, force-opens, force-out, force-pending}
use Rattle.acts.proofs.Answers.{by, found-is, found-stuck, stays, stops}
use Rattle.machine.specs.Try.{◌>>=◌}
use Rattle.machine.specs.Steps.{execute_to}
use Rattle.store.specs.Answers.{end_of}
use Rattle.store.specs.declared.Halt.{Halt}
use mathlib.Core.Path.{refl}
use mir.Val.{SFits}
use mir.Syntax.{w64}
use mir.Facts.{to_z-of_z}
use borrow.Author.Rules.{rules}
use Rattle.acts.proofs.force.Goals as goal

pub returns-in_default : goal.returns-in_default
unfolding execute_to ◌>>=◌
returns-in_default c =
    (λ P W. stays _ _ (rw (found-stuck c.promise.ensures.0 c.in_default.is) refl), c.requires.0)

pub returns-then-p-ge64 : goal.returns-then-p-ge64
returns-then-p-ge64 c = (
  λ P W. stays _ _ (force-out P W _ _ _ _ _ (found-is c.promise.ensures.0 c.in-Some.is) c.if-p-ge64.true),
  c.requires.0,
)

pub assign_integer-requires : goal.assign_integer-requires
assign_integer-requires c =
    c.requires

pub returns-then-counts-p-ne0 : goal.returns-then-counts-p-ne0
unfolding end_of
returns-then-counts-p-ne0 c = (
  λ P W. stops _ _ Halt.Undef (force-pending P W c.args.bytes.now
      c.args.numbers.now _ _ _
      (found-is c.promise.ensures.0
      c.in-Some.is) c.if-p-ge64.false
      c.promise_at-q.ensures
      c.args.counts.now
      c.requires.0.counted c.in-Unforced.is
      c.if-counts-p-ne0.true),
  c.requires.0,
)

pub push-requires : goal.push-requires
push-requires c =
    c.requires.0

pub returns-in-Forced : goal.returns-in-Forced
returns-in-Forced c =
    let s : SFits w64 c.in-Forced.z = search rules in
    let g = rw (to_z-of_z s) at c.assign_integer.ensures in (
      λ P W. by _ _ _ _ _
          (force-cached P W c.args.bytes.now
          c.args.numbers.now _ _ _
          (found-is c.promise.ensures.0
          c.in-Some.is)
          c.if-p-ge64.false c.promise_at-q.ensures
          c.in-Forced.is) g.0,
      g.1,
    )

pub returns-else-counts-p-ne0 : goal.returns-else-counts-p-ne0
returns-else-counts-p-ne0 c = (
  λ P W. by _ _ _ _ _
      (force-opens P W
      c.args.bytes.now
      c.args.numbers.now _ _ _
      (found-is c.promise.ensures.0
      c.in-Some.is)
      c.if-p-ge64.false
      c.promise_at-q.ensures
      c.args.counts.now
      c.requires.0.counted
      c.in-Unforced.is c.if-counts-p-ne0.false) c.push.ensures.0,
  c.push.ensures.1,
)
