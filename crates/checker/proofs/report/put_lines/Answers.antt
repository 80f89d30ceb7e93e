use Prim.Native.Nat.{◌+◌}
use Rattle.checker.proofs.Puts.{writing-first, writing-last, writing-fits, writing-next, writing-as}
use Rattle.checker.proofs.Texts.{lines_ahead, none_left, line-left, same_left}
use Rattle.checker.specs.Reports.{version_line}
use Rattle.layout.proofs.Walk.{size_in}
use Rattle.layout.specs.Records.{records}
use Rattle.program.proofs.Views.{view-end, view-past}
use Rattle.program.specs.Places.{version_at}
use Rattle.program.specs.Program.{program}
use Rattle.writer.proofs.Placed.{placed-length}
use lib.ListN.{length}
use mathlib.Core.Path.{refl, sym, ap, ◌∙◌}
use native.Mathlib.Nat.{zero-add}
use native.Mathlib.Omega.{arith}
use Rattle.layout.proofs.Left.{given, exhausted}
use Rattle.layout.specs.Left.{left}
use Rattle.checker.proofs.report.put_lines.Goals as goal

pub loop-record-init : goal.loop-record-init
loop-record-init c =
    (tt, tt, (0, ap left c.into_iter-record-iterator.ensures.into_iter_gives ∙ c.of-record-items.ensures, refl, writing-first _ _))

pub shape_of-out-then-record-eq0 : goal.shape_of-out-then-record-eq0
shape_of-out-then-record-eq0 c =
    let i = c.loop-record.invariant.2 in
    i.2

pub returns-then-record-eq0 : goal.returns-then-record-eq0
returns-then-record-eq0 c =
    let i = c.loop-record.invariant.2 in
    let x = given _ _ (sym i.1 ∙ c.in-Some.ensures.steps) in
    let w = writing-last (writing-as (none_left (program (records c.args.image.now)) _ _ (view-past _ _ (sym x.size ∙ c.if-record-eq0.true))) (rw x.at at i.3)) in
    (w.ends ∙ zero-add _, w.writes)

pub put_line-at-requires : goal.put_line-at-requires
put_line-at-requires c =
    let i = c.loop-record.invariant.2 in
    let x = given _ _ (sym i.1 ∙ c.in-Some.ensures.steps) in
    rw (c.line_at.ensures, i.2)
    (writing-fits (version_line (program (records c.args.image.now)) (version_at c.args.image.now c.in-Some.record.at))
    (lines_ahead (program (records c.args.image.now)) c.args.image.now (c.in-Some.record.at + c.in-Some.record.size))
    (writing-as (line-left (program (records c.args.image.now))
    (record { inside = x.inside; size = x.size; whole = c.if-record-eq0.false; kind = c.kind_at.ensures }) c.if-kind_at-eq-VERSION.true) (rw x.at at i.3))
    c.requires)

pub loop-record-preserved-then-kind_at-eq-VERSION : goal.loop-record-preserved-then-kind_at-eq-VERSION
loop-record-preserved-then-kind_at-eq-VERSION c =
    let i = c.loop-record.invariant.2 in
    let x = given _ _ (sym i.1 ∙ c.in-Some.ensures.steps) in (
      tt,
      tt,
      (
        _,
        x.whole c.if-record-eq0.false,
        ap length c.put_line-at.ensures.1 ∙ placed-length _ _ _
            ∙ i.2,
        writing-next
            (version_line (program (records c.args.image.now))
            (version_at c.args.image.now c.in-Some.record.at))
            (lines_ahead (program (records c.args.image.now)) c.args.image.now
            (c.in-Some.record.at + c.in-Some.record.size))
            (writing-as (line-left (program (records c.args.image.now))
            (record { inside = x.inside; size = x.size; whole = c.if-record-eq0.false; kind = c.kind_at.ensures })
            c.if-kind_at-eq-VERSION.true) (rw x.at at i.3)) c.requires
            (record { writes = rw c.line_at.ensures at c.put_line-at.ensures.1; ends = rw c.line_at.ensures at c.put_line-at.ensures.0 }),
      ),
    )

pub loop-record-preserved : goal.loop-record-preserved
loop-record-preserved c =
    let i = c.loop-record.invariant.2 in
    let x = given _ _ (sym i.1 ∙ c.in-Some.ensures.steps) in (
      tt,
      tt,
      (
        _,
        x.whole c.if-record-eq0.false,
        i.2,
        writing-as
            (same_left (program (records c.args.image.now)) (record { inside = x.inside; size = x.size; whole = c.if-record-eq0.false; kind = c.kind_at.ensures }) c.if-kind_at-eq-VERSION.false)
            (rw x.at at i.3),
      ),
    )

pub shape_of-out : goal.shape_of-out
shape_of-out c =
    let i = c.loop-record.invariant.2 in
    i.2

pub returns : goal.returns
returns c =
    let i = c.loop-record.invariant.2 in
    let w = writing-last (writing-as (none_left (program (records c.args.image.now)) _ _ (view-end _ _ (exhausted _ _ (sym i.1 ∙ c.in-None.ensures.steps.0)))) i.3) in
    (w.ends ∙ zero-add _, w.writes)
