use native.Mathlib.Omega.{arith}
use mathlib.Core.Path.{sym, ◌∙◌, ap}
use Rattle.layout.proofs.Walk.{size_in}
use Rattle.program.proofs.Views.{view-end, view-past}
use Rattle.joins.proofs.Parts.{count-first, counted-all, count-version, count-other}
use Rattle.layout.proofs.Left.{given, exhausted}
use Rattle.layout.specs.Left.{left}
use Rattle.joins.proofs.functions.Goals as goal

pub loop-record-init : goal.loop-record-init
loop-record-init c =
    (tt, tt, (0, ap left c.into_iter-record-iterator.ensures.into_iter_gives ∙ c.of-record-items.ensures, count-first _))

pub returns-then-record-eq0 : goal.returns-then-record-eq0
returns-then-record-eq0 c =
    let i = c.loop-record.invariant.2 in
    let x = given _ _ (sym i.1 ∙ c.in-Some.ensures.steps) in
    counted-all (rw x.at at i.2) (view-past _ _ (sym x.size ∙ c.if-record-eq0.true))

pub overflow_add-count : goal.overflow_add-count
overflow_add-count c =
    omega (arith, c.field-count.ensures.1)

pub loop-record-preserved-then-kind_at-eq-VERSION : goal.loop-record-preserved-then-kind_at-eq-VERSION
loop-record-preserved-then-kind_at-eq-VERSION c =
    let i = c.loop-record.invariant.2 in
    let x = given _ _ (sym i.1 ∙ c.in-Some.ensures.steps) in
    (tt, tt, (_, x.whole c.if-record-eq0.false, count-version (rw x.at at i.2) (record { inside = x.inside; size = x.size; whole = c.if-record-eq0.false; kind = c.kind_at.ensures }) (size_in _ _ x.size c.if-record-eq0.false).1 c.if-kind_at-eq-VERSION.true c.field-count.ensures.0 c.field-count.ensures.1))

pub loop-record-preserved : goal.loop-record-preserved
loop-record-preserved c =
    let i = c.loop-record.invariant.2 in
    let x = given _ _ (sym i.1 ∙ c.in-Some.ensures.steps) in
    (tt, tt, (_, x.whole c.if-record-eq0.false, count-other (rw x.at at i.2) (record { inside = x.inside; size = x.size; whole = c.if-record-eq0.false; kind = c.kind_at.ensures }) (size_in _ _ x.size c.if-record-eq0.false).1 c.if-kind_at-eq-VERSION.false))

pub returns : goal.returns
returns c =
    let i = c.loop-record.invariant.2 in
    counted-all i.2 (view-end _ _ (exhausted _ _ (sym i.1 ∙ c.in-None.ensures.steps.0)))
