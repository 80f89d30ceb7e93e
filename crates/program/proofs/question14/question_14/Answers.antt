-- `program::question14::question_14`: each record is met as the law of a question has it.
use Rattle.std.proofs.Common.{sym, ap, ◌∙◌, arith}
use Rattle.layout.specs.Left.{left}
use Rattle.layout.specs.Records.{records}
use Rattle.layout.proofs.Left.{given, exhausted}
use Rattle.layout.proofs.Walk.{ended, broken, say-no, go_on}
use Rattle.program.specs.Skips.{question14}
use Rattle.program.proofs.question14.question_14.Goals as goal

pub loop-record-init : goal.loop-record-init
unfolding question14
loop-record-init c =
    (tt, tt, (0, ap left c.into_iter-record-iterator.ensures.into_iter_gives ∙ c.of-record-items.ensures, record { inside = omega arith; left = rw c.none-ends.ensures (λ i. question14 (records c.args.image.now)) }))

pub returns-then-record-eq0 : goal.returns-then-record-eq0
returns-then-record-eq0 c =
    let i = c.loop-record.invariant.2 in
    let x = given _ _ (sym i.1 ∙ c.in-Some.ensures.steps) in
    broken (rw x.at at i.2) x.inside x.size c.if-record-eq0.true

pub returns-then-not-ends_within : goal.returns-then-not-ends_within
returns-then-not-ends_within c =
    let i = c.loop-record.invariant.2 in
    let x = given _ _ (sym i.1 ∙ c.in-Some.ensures.steps) in
    say-no (record { along = rw x.at at i.2; inside = x.inside; size = x.size; whole = c.if-record-eq0.false }) (sym c.ends_within.ensures ∙ c.if-not-ends_within.true)

pub loop-record-preserved : goal.loop-record-preserved
loop-record-preserved c =
    let i = c.loop-record.invariant.2 in
    let x = given _ _ (sym i.1 ∙ c.in-Some.ensures.steps) in (
      tt,
      tt,
      (
        _,
        x.whole c.if-record-eq0.false,
        go_on (record { along = rw x.at at i.2; inside = x.inside; size = x.size; whole = c.if-record-eq0.false }) _ (sym c.ends_within.ensures ∙ c.if-not-ends_within.false) (sym c.ends_after-ends.ensures),
      ),
    )

pub returns : goal.returns
returns c =
    let i = c.loop-record.invariant.2 in
    ended i.2 (exhausted _ _ (sym i.1 ∙ c.in-None.ensures.steps.0))
