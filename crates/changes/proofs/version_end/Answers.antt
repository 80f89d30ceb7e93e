use Rattle.changes.specs.Parts.{end_from, end_at}
use Rattle.layout.proofs.Walk.{size_room, size_in}
use Rattle.machine.proofs.Changes.{end-nowhere, end-here, end_later}
use Rattle.program.proofs.Views.{Whole, view-end, view-past}
use mathlib.Core.Path.{refl, sym, ◌∙◌, ap}
use native.Mathlib.Omega.{arith}
use Rattle.layout.proofs.Left.{given, exhausted}
use Rattle.layout.specs.Left.{left}
use Rattle.changes.proofs.version_end.Goals as goal

pub loop-record-init : goal.loop-record-init
unfolding end_at
loop-record-init c =
    let room = size_room c.args.image.now c.args.v c.requires in
    (tt, tt, (_, ap left c.into_iter-record-iterator.ensures.into_iter_gives ∙ c.behind-record-items.ensures, omega arith, omega (arith, room), refl))

pub returns-then-record-eq0 : goal.returns-then-record-eq0
unfolding end_from
returns-then-record-eq0 c =
    let i = c.loop-record.invariant.2 in
    let x = given _ _ (sym i.1 ∙ c.in-Some.ensures.steps) in
    let ends = view-past _ _ (sym x.size ∙ c.if-record-eq0.true) in
    (sym ((rw x.at at i.4) ∙ end-nowhere c.args.image.now _ ends), c.requires, omega arith)

pub returns-then-kind_at-eq-VERSION : goal.returns-then-kind_at-eq-VERSION
unfolding end_from
returns-then-kind_at-eq-VERSION c =
    let i = c.loop-record.invariant.2 in
    let x = given _ _ (sym i.1 ∙ c.in-Some.ensures.steps) in
    let met : Whole _ _ _ _ = record { inside = x.inside; size = x.size; whole = c.if-record-eq0.false; kind = c.kind_at.ensures } in
    (sym ((rw x.at at i.4) ∙ end-here met c.if-kind_at-eq-VERSION.true), (rw x.at at i.2), (rw x.at at i.3))

pub loop-record-preserved : goal.loop-record-preserved
unfolding end_from
loop-record-preserved c =
    let i = c.loop-record.invariant.2 in
    let x = given _ _ (sym i.1 ∙ c.in-Some.ensures.steps) in
    let met : Whole _ _ _ _ = record { inside = x.inside; size = x.size; whole = c.if-record-eq0.false; kind = c.kind_at.ensures } in
    let room = size_in _ _ x.size c.if-record-eq0.false in
    let before = rw x.at at i.2 in
    (tt, tt, (_, x.whole c.if-record-eq0.false, omega (arith, before), omega (arith, room), (rw x.at at i.4) ∙ end_later met c.if-kind_at-eq-VERSION.false))

pub returns : goal.returns
unfolding end_from
returns c =
    let i = c.loop-record.invariant.2 in
    (sym (i.4 ∙ end-nowhere c.args.image.now _ (view-end _ _ (exhausted _ _ (sym i.1 ∙ c.in-None.ensures.steps.0)))), c.requires, omega arith)
