use Rattle.program.proofs.Lookups.{block_from, block-nowhere, no_block, block_here, block-later, block-behind, block-outside}
use Rattle.program.proofs.Views.{view-end, view-past}
use Rattle.program.specs.Places.{block_place, version_at}
use mathlib.Core.Path.{refl, sym, ◌∙◌, ap}
use native.Mathlib.Omega.{arith}
use Rattle.layout.proofs.Left.{given, exhausted}
use Rattle.layout.specs.Left.{left}
use Rattle.program.proofs.lookup.block.Goals as goal

pub returns-then-image-v : goal.returns-then-image-v
returns-then-image-v c =
    sym (block-outside _ _ _ c.if-image-v.true)

pub loop-record-init : goal.loop-record-init
unfolding block_place block_from version_at
loop-record-init c =
    (tt, tt, (_, ap left c.into_iter-record-iterator.ensures.into_iter_gives ∙ c.behind-record-items.ensures, refl))

pub returns-then-record-eq0 : goal.returns-then-record-eq0
returns-then-record-eq0 c =
    let i = c.loop-record.invariant.2 in
    let x = given _ _ (sym i.1 ∙ c.in-Some.ensures.steps) in
    sym ((rw x.at at i.2) ∙ block-nowhere _ _ _ (view-past _ _ (sym x.size ∙ c.if-record-eq0.true)))

pub returns-then-k-eq-VERSION : goal.returns-then-k-eq-VERSION
returns-then-k-eq-VERSION c =
    let i = c.loop-record.invariant.2 in
    let x = given _ _ (sym i.1 ∙ c.in-Some.ensures.steps) in
    sym ((rw x.at at i.2) ∙ no_block (record { inside = x.inside; size = x.size; whole = c.if-record-eq0.false; kind = c.kind_at-k.ensures }) _ c.if-k-eq-VERSION.true)

pub returns-then-left-eq0 : goal.returns-then-left-eq0
returns-then-left-eq0 c =
    let i = c.loop-record.invariant.2 in
    let x = given _ _ (sym i.1 ∙ c.in-Some.ensures.steps) in
    sym ((rw x.at at i.2)
    ∙ block_here (record { inside = x.inside; size = x.size; whole = c.if-record-eq0.false; kind = c.kind_at-k.ensures }) _ c.if-k-eq-BLOCK.true c.if-left-eq0.true)

pub overflow_sub-left : goal.overflow_sub-left
overflow_sub-left c =
    omega (arith, c.if-left-eq0.false)

pub loop-record-preserved-then-k-eq-BLOCK : goal.loop-record-preserved-then-k-eq-BLOCK
loop-record-preserved-then-k-eq-BLOCK c =
    let i = c.loop-record.invariant.2 in
    let x = given _ _ (sym i.1 ∙ c.in-Some.ensures.steps) in (
      tt,
      tt,
      (
        _,
        x.whole c.if-record-eq0.false,
        (rw x.at at i.2)
            ∙ block-later (record { inside = x.inside; size = x.size; whole = c.if-record-eq0.false; kind = c.kind_at-k.ensures }) _ c.if-k-eq-BLOCK.true c.if-left-eq0.false,
      ),
    )

pub loop-record-preserved : goal.loop-record-preserved
loop-record-preserved c =
    let i = c.loop-record.invariant.2 in
    let x = given _ _ (sym i.1 ∙ c.in-Some.ensures.steps) in (
      tt,
      tt,
      (
        _,
        x.whole c.if-record-eq0.false,
        (rw x.at at i.2)
            ∙ block-behind (record { inside = x.inside; size = x.size; whole = c.if-record-eq0.false; kind = c.kind_at-k.ensures }) _ c.if-k-eq-VERSION.false c.if-k-eq-BLOCK.false,
      ),
    )

pub returns : goal.returns
returns c =
    let i = c.loop-record.invariant.2 in
    sym (i.2 ∙ block-nowhere _ _ _ (view-end _ _ (exhausted _ _ (sym i.1 ∙ c.in-None.ensures.steps.0))))
