use Rattle.layout.proofs.Walk.{size_room, size_in}
use Rattle.program.proofs.Existence.{none_seen, seen_first, seen-outside, seen-version, seen-block, seen-stray, seen-named, seen_other}
use Rattle.program.proofs.Views.{view-end, view-past}
use mathlib.Core.Path.{sym, ◌∙◌, ap}
use native.Mathlib.Nat.{zero-add, add-zero}
use native.Mathlib.Omega.{arith}
use Rattle.layout.proofs.Left.{given, exhausted}
use Rattle.layout.specs.Left.{left}
use Rattle.program.proofs.question7.count_namings.Goals as goal

pub returns-then-image-v : goal.returns-then-image-v
returns-then-image-v c =
    sym (seen-outside _ _ _ c.if-image-v.true)

pub loop-record-init : goal.loop-record-init
loop-record-init c =
    (tt, tt, (_, ap left c.into_iter-record-iterator.ensures.into_iter_gives ∙ c.behind-record-items.ensures, omega arith, seen_first _ _ _ ∙ rw zero-add))

pub returns-then-record-eq0 : goal.returns-then-record-eq0
returns-then-record-eq0 c =
    let i = c.loop-record.invariant.2 in
    let x = given _ _ (sym i.1 ∙ c.in-Some.ensures.steps) in
    sym ((rw x.at at i.3) ∙ rw (view-past _ _ (sym x.size ∙ c.if-record-eq0.true), none_seen, add-zero))

pub returns-then-k-eq-VERSION : goal.returns-then-k-eq-VERSION
returns-then-k-eq-VERSION c =
    let i = c.loop-record.invariant.2 in
    let x = given _ _ (sym i.1 ∙ c.in-Some.ensures.steps) in
    sym ((rw x.at at i.3) ∙ rw (seen-version (record { inside = x.inside; size = x.size; whole = c.if-record-eq0.false; kind = c.kind_at-k.ensures }) _ _ c.if-k-eq-VERSION.true, add-zero))

pub loop-record-preserved-then-k-eq-BLOCK : goal.loop-record-preserved-then-k-eq-BLOCK
loop-record-preserved-then-k-eq-BLOCK c =
    let i = c.loop-record.invariant.2 in
    let x = given _ _ (sym i.1 ∙ c.in-Some.ensures.steps) in (
      tt,
      tt,
      (
        _,
        x.whole c.if-record-eq0.false,
        omega (arith, (rw x.at at i.2)),
        (rw x.at at i.3)
            ∙ rw (seen-block (record { inside = x.inside; size = x.size; whole = c.if-record-eq0.false; kind = c.kind_at-k.ensures }) _ _ c.if-k-eq-BLOCK.true),
      ),
    )

pub overflow_add-count : goal.overflow_add-count
overflow_add-count c =
    let i = c.loop-record.invariant.2 in
    let x = given _ _ (sym i.1 ∙ c.in-Some.ensures.steps) in
    omega (arith, (rw x.at at i.2), x.inside)

pub loop-record-preserved-then-names_block : goal.loop-record-preserved-then-names_block
loop-record-preserved-then-names_block c =
    let i = c.loop-record.invariant.2 in
    let x = given _ _ (sym i.1 ∙ c.in-Some.ensures.steps) in (
      tt,
      tt,
      (
        _,
        x.whole c.if-record-eq0.false,
        omega (arith, (rw x.at at i.2), c.if-record-eq0.false),
        (rw x.at at i.3)
            ∙ rw c.if-begun.true
            (omega (
              arith,
              seen-named (record { inside = x.inside; size = x.size; whole = c.if-record-eq0.false; kind = c.kind_at-k.ensures }) _
                  c.if-k-eq-VERSION.false c.if-k-eq-BLOCK.false (sym c.names_block.ensures ∙ c.if-names_block.true),
            )),
      ),
    )

pub loop-record-preserved-else-names_block : goal.loop-record-preserved-else-names_block
loop-record-preserved-else-names_block c =
    let i = c.loop-record.invariant.2 in
    let x = given _ _ (sym i.1 ∙ c.in-Some.ensures.steps) in (
      tt,
      tt,
      (
        _,
        x.whole c.if-record-eq0.false,
        omega (arith, (rw x.at at i.2)),
        (rw x.at at i.3)
            ∙ rw (
              c.if-begun.true,
              seen_other (record { inside = x.inside; size = x.size; whole = c.if-record-eq0.false; kind = c.kind_at-k.ensures }) _
                  c.if-k-eq-VERSION.false c.if-k-eq-BLOCK.false (sym c.names_block.ensures ∙ c.if-names_block.false),
            ),
      ),
    )

pub loop-record-preserved : goal.loop-record-preserved
loop-record-preserved c =
    let i = c.loop-record.invariant.2 in
    let x = given _ _ (sym i.1 ∙ c.in-Some.ensures.steps) in (
      tt,
      tt,
      (
        _,
        x.whole c.if-record-eq0.false,
        omega (arith, (rw x.at at i.2)),
        (rw x.at at i.3)
            ∙ rw (c.if-begun.false, seen-stray (record { inside = x.inside; size = x.size; whole = c.if-record-eq0.false; kind = c.kind_at-k.ensures }) _ c.if-k-eq-VERSION.false c.if-k-eq-BLOCK.false),
      ),
    )

pub returns : goal.returns
returns c =
    let i = c.loop-record.invariant.2 in
    sym (i.3 ∙ rw (view-end _ _ (exhausted _ _ (sym i.1 ∙ c.in-None.ensures.steps.0)), none_seen, add-zero))
