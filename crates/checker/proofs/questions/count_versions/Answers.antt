use Rattle.checker.proofs.Asks.{none_ahead, one-ahead, same_ahead}
use Rattle.layout.proofs.Walk.{size_in}
use Rattle.program.proofs.Views.{view-end, view-past}
use mathlib.Core.Path.{sym, ◌∙◌, ap}
use native.Mathlib.Nat.{zero-add, add-zero}
use native.Mathlib.Omega.{arith}
use Rattle.layout.proofs.Left.{given, exhausted}
use Rattle.layout.specs.Left.{left}
use Rattle.checker.proofs.questions.count_versions.Goals as goal

pub loop-record-init : goal.loop-record-init
loop-record-init c =
    (tt, tt, (0, ap left c.into_iter-record-iterator.ensures.into_iter_gives ∙ c.of-record-items.ensures, omega arith, sym (zero-add _)))

pub returns-then-record-eq0 : goal.returns-then-record-eq0
returns-then-record-eq0 c =
    let i = c.loop-record.invariant.2 in
    let x = given _ _ (sym i.1 ∙ c.in-Some.ensures.steps) in
    sym ((rw x.at at i.3) ∙ rw (none_ahead _ _ (view-past _ _ (sym x.size ∙ c.if-record-eq0.true)), add-zero))

pub overflow_add-count : goal.overflow_add-count
overflow_add-count c =
    let i = c.loop-record.invariant.2 in
    let x = given _ _ (sym i.1 ∙ c.in-Some.ensures.steps) in
    omega (arith, x.inside, (rw x.at at i.2), x.inside)

pub loop-record-preserved-then-kind_at-eq-VERSION : goal.loop-record-preserved-then-kind_at-eq-VERSION
loop-record-preserved-then-kind_at-eq-VERSION c =
    let i = c.loop-record.invariant.2 in
    let x = given _ _ (sym i.1 ∙ c.in-Some.ensures.steps) in (
      tt,
      tt,
      (
        _,
        x.whole c.if-record-eq0.false,
        omega (arith, (rw x.at at i.2), c.if-record-eq0.false),
        (rw x.at at i.3)
            ∙ rw (one-ahead (record { inside = x.inside; size = x.size; whole = c.if-record-eq0.false; kind = c.kind_at.ensures }) c.if-kind_at-eq-VERSION.true) (omega arith),
      ),
    )

pub loop-record-preserved : goal.loop-record-preserved
loop-record-preserved c =
    let i = c.loop-record.invariant.2 in
    let x = given _ _ (sym i.1 ∙ c.in-Some.ensures.steps) in (
      tt,
      tt,
      (
        _,
        x.whole c.if-record-eq0.false,
        omega (arith, (rw x.at at i.2)),
        (rw x.at at i.3)
            ∙ rw (same_ahead (record { inside = x.inside; size = x.size; whole = c.if-record-eq0.false; kind = c.kind_at.ensures }) c.if-kind_at-eq-VERSION.false),
      ),
    )

pub returns : goal.returns
returns c =
    let i = c.loop-record.invariant.2 in
    sym (i.3 ∙ rw (none_ahead _ _ (view-end _ _ (exhausted _ _ (sym i.1 ∙ c.in-None.ensures.steps.0))), add-zero))
