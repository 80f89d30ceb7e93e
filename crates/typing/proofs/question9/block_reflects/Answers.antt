use Rattle.layout.proofs.Walk.{size_room, size_in}
use Rattle.program.proofs.Views.{view-end, view-past}
use Rattle.typing.proofs.Lines.{none_ahead, block-ahead, none-outside, version-ahead, next-ahead, met-ahead, passed-ahead}
use mathlib.Core.Path.{refl, sym, ◌∙◌, ap}
use native.Mathlib.Omega.{arith}
use Rattle.layout.proofs.Left.{given, exhausted}
use Rattle.layout.specs.Left.{left}
use Rattle.typing.proofs.question9.block_reflects.Goals as goal

pub returns-then-image-b : goal.returns-then-image-b
returns-then-image-b c =
    sym (none-outside _ _ _ c.if-image-b.true)

pub loop-record-init : goal.loop-record-init
loop-record-init c =
    (tt, tt, (_, ap left c.into_iter-record-iterator.ensures.into_iter_gives ∙ c.behind-record-items.ensures, refl))

pub returns-then-record-eq0 : goal.returns-then-record-eq0
returns-then-record-eq0 c =
    let i = c.loop-record.invariant.2 in
    let x = given _ _ (sym i.1 ∙ c.in-Some.ensures.steps) in
    sym (block-ahead _ _ _ ∙ (rw x.at at i.2) ∙ none_ahead _ _ _ (view-past _ _ (sym x.size ∙ c.if-record-eq0.true)))

pub returns-then-k-eq-VERSION : goal.returns-then-k-eq-VERSION
returns-then-k-eq-VERSION c =
    let i = c.loop-record.invariant.2 in
    let x = given _ _ (sym i.1 ∙ c.in-Some.ensures.steps) in
    sym (block-ahead _ _ _ ∙ (rw x.at at i.2) ∙ version-ahead _ (record { inside = x.inside; size = x.size; whole = c.if-record-eq0.false; kind = c.kind_at-k.ensures }) c.if-k-eq-VERSION.true)

pub returns-then-k-eq-BLOCK : goal.returns-then-k-eq-BLOCK
returns-then-k-eq-BLOCK c =
    let i = c.loop-record.invariant.2 in
    let x = given _ _ (sym i.1 ∙ c.in-Some.ensures.steps) in
    sym (block-ahead _ _ _ ∙ (rw x.at at i.2) ∙ next-ahead _ (record { inside = x.inside; size = x.size; whole = c.if-record-eq0.false; kind = c.kind_at-k.ensures }) c.if-k-eq-BLOCK.true)

pub returns-then-reflects : goal.returns-then-reflects
returns-then-reflects c =
    let i = c.loop-record.invariant.2 in
    let x = given _ _ (sym i.1 ∙ c.in-Some.ensures.steps) in
    sym (block-ahead _ _ _ ∙ (rw x.at at i.2)
    ∙ met-ahead _ (record { inside = x.inside; size = x.size; whole = c.if-record-eq0.false; kind = c.kind_at-k.ensures }) c.if-k-eq-VERSION.false
    c.if-k-eq-BLOCK.false (sym c.reflects.ensures ∙ c.if-reflects.true))

pub loop-record-preserved : goal.loop-record-preserved
loop-record-preserved c =
    let i = c.loop-record.invariant.2 in
    let x = given _ _ (sym i.1 ∙ c.in-Some.ensures.steps) in (
      tt,
      tt,
      (
        _,
        x.whole c.if-record-eq0.false,
        (rw x.at at i.2)
            ∙ passed-ahead _ (record { inside = x.inside; size = x.size; whole = c.if-record-eq0.false; kind = c.kind_at-k.ensures }) c.if-k-eq-VERSION.false
            c.if-k-eq-BLOCK.false (sym c.reflects.ensures ∙ c.if-reflects.false),
      ),
    )

pub returns : goal.returns
returns c =
    let i = c.loop-record.invariant.2 in
    sym (block-ahead _ _ _ ∙ i.2 ∙ none_ahead _ _ _ (view-end _ _ (exhausted _ _ (sym i.1 ∙ c.in-None.ensures.steps.0))))
