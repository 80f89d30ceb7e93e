use Rattle.layout.proofs.Walk.{size_in}
use Rattle.program.proofs.Tables.{filled-empty, filled-last, filled-past, filled-again, filled-here}
use Rattle.program.proofs.Views.{view-end, view-past}
use mathlib.Core.Path.{refl, sym, ◌∙◌, ap}
use native.Mathlib.Omega.{arith}
use Rattle.layout.proofs.Left.{given, exhausted}
use Rattle.layout.specs.Left.{left}
use Rattle.program.proofs.lookup.versions.Goals as goal

pub loop-record-init : goal.loop-record-init
loop-record-init c =
    (tt, tt, (0, ap left c.into_iter-record-iterator.ensures.into_iter_gives ∙ c.of-record-items.ensures, refl, filled-empty _))

pub returns-then-record-eq0 : goal.returns-then-record-eq0
returns-then-record-eq0 c =
    let i = c.loop-record.invariant.2 in
    let x = given _ _ (sym i.1 ∙ c.in-Some.ensures.steps) in
    filled-last _ _ _ (rw x.at at i.3) (view-past _ _ (sym x.size ∙ c.if-record-eq0.true))

pub offset_bounds-table-k : goal.offset_bounds-table-k
offset_bounds-table-k c =
    omega (arith, c.if-k-lt-TABLE.true)

pub bounds-table-k : goal.bounds-table-k
bounds-table-k c =
    omega (arith, c.if-k-lt-TABLE.true, c.loop-record.invariant.2.3.size)

pub offset_bounds-table-k-then-table-k : goal.offset_bounds-table-k-then-table-k
offset_bounds-table-k-then-table-k c =
    omega (arith, c.if-k-lt-TABLE.true)

pub bounds-table-k-then-table-k : goal.bounds-table-k-then-table-k
bounds-table-k-then-table-k c =
    omega (arith, c.if-k-lt-TABLE.true, c.loop-record.invariant.2.3.size)

pub loop-record-preserved-then-table-k : goal.loop-record-preserved-then-table-k
loop-record-preserved-then-table-k c =
    let i = c.loop-record.invariant.2 in
    let x = given _ _ (sym i.1 ∙ c.in-Some.ensures.steps) in (
      tt,
      tt,
      (
        _,
        x.whole c.if-record-eq0.false,
        i.2,
        rw c.slot-k.ensures
            (filled-here (record { inside = x.inside; size = x.size; whole = c.if-record-eq0.false; kind = refl }) (rw x.at at i.3) (rw c.slot-k.ensures at c.if-k-lt-TABLE.true)
            (rw c.slot-k.ensures at (c.if-table-k.true ∙ i.2))),
      ),
    )

pub loop-record-preserved-else-table-k : goal.loop-record-preserved-else-table-k
loop-record-preserved-else-table-k c =
    let i = c.loop-record.invariant.2 in
    let x = given _ _ (sym i.1 ∙ c.in-Some.ensures.steps) in (
      tt,
      tt,
      (
        _,
        x.whole c.if-record-eq0.false,
        i.2,
        filled-again
            (record { inside = x.inside; size = x.size; whole = c.if-record-eq0.false; kind = refl }) (rw x.at at i.3) (rw c.slot-k.ensures at c.if-k-lt-TABLE.true)
            (λ e. c.if-table-k.false (rw c.slot-k.ensures (e ∙ sym i.2))),
      ),
    )

pub loop-record-preserved : goal.loop-record-preserved
loop-record-preserved c =
    let i = c.loop-record.invariant.2 in
    let x = given _ _ (sym i.1 ∙ c.in-Some.ensures.steps) in (
      tt,
      tt,
      (
        _,
        x.whole c.if-record-eq0.false,
        i.2,
        filled-past (record { inside = x.inside; size = x.size; whole = c.if-record-eq0.false; kind = refl })
            (rw x.at at i.3) (rw c.slot-k.ensures at c.if-k-lt-TABLE.false),
      ),
    )

pub returns : goal.returns
returns c =
    let i = c.loop-record.invariant.2 in
    filled-last _ _ _ i.3 (view-end _ _ (exhausted _ _ (sym i.1 ∙ c.in-None.ensures.steps.0)))
