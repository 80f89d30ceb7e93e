use Rattle.checker.proofs.Texts.{none_left, line-left, same_left}
use Rattle.layout.proofs.Walk.{size_in}
use Rattle.layout.specs.Records.{records}
use Rattle.program.proofs.Views.{view-end, view-past}
use Rattle.program.specs.Program.{program}
use lib.ListN.{length-append}
use mathlib.Core.Path.{sym, ◌∙◌, ap}
use native.Mathlib.Nat.{zero-add, add-zero}
use native.Mathlib.Omega.{arith}
use Rattle.layout.proofs.Left.{given, exhausted}
use Rattle.layout.specs.Left.{left}
use Rattle.checker.proofs.report.lines_length.Goals as goal

pub loop-record-init : goal.loop-record-init
loop-record-init c =
    (tt, tt, (0, ap left c.into_iter-record-iterator.ensures.into_iter_gives ∙ c.of-record-items.ensures, omega arith, omega arith, sym (zero-add _)))

pub returns-then-record-eq0 : goal.returns-then-record-eq0
returns-then-record-eq0 c =
    let i = c.loop-record.invariant.2 in
    let x = given _ _ (sym i.1 ∙ c.in-Some.ensures.steps) in
    (sym ((rw x.at at i.4) ∙ rw (none_left (program (records c.args.image.now)) _ _ (view-past _ _ (sym x.size ∙ c.if-record-eq0.true)), add-zero)), omega (arith, c.requires, x.inside, (rw x.at at i.3)))

pub overflow_add-total : goal.overflow_add-total
overflow_add-total c =
    let i = c.loop-record.invariant.2 in
    let x = given _ _ (sym i.1 ∙ c.in-Some.ensures.steps) in
    omega (arith, c.requires, x.inside, (rw x.at at i.3), x.inside, c.line_length-total.ensures.1)

pub loop-record-preserved-then-kind_at-eq-VERSION : goal.loop-record-preserved-then-kind_at-eq-VERSION
loop-record-preserved-then-kind_at-eq-VERSION c =
    let i = c.loop-record.invariant.2 in
    let x = given _ _ (sym i.1 ∙ c.in-Some.ensures.steps) in (
      tt,
      tt,
      (
        _,
        x.whole c.if-record-eq0.false,
        omega (arith, size_in _ _ x.size c.if-record-eq0.false),
        omega (arith, (rw x.at at i.3), c.line_length-total.ensures.1, size_in _ _ x.size c.if-record-eq0.false),
        (rw x.at at i.4)
            ∙ rw (
              line-left (program (records c.args.image.now))
                  (record { inside = x.inside; size = x.size; whole = c.if-record-eq0.false; kind = c.kind_at.ensures }) c.if-kind_at-eq-VERSION.true,
              length-append,
              ← c.line_at.ensures,
              ← c.line_length-total.ensures.0,
            )
            (omega arith),
      ),
    )

pub loop-record-preserved : goal.loop-record-preserved
loop-record-preserved c =
    let i = c.loop-record.invariant.2 in
    let x = given _ _ (sym i.1 ∙ c.in-Some.ensures.steps) in (
      tt,
      tt,
      (
        _,
        x.whole c.if-record-eq0.false,
        omega (arith, size_in _ _ x.size c.if-record-eq0.false),
        omega (arith, (rw x.at at i.3)),
        (rw x.at at i.4)
            ∙ rw (same_left (program (records c.args.image.now)) (record { inside = x.inside; size = x.size; whole = c.if-record-eq0.false; kind = c.kind_at.ensures }) c.if-kind_at-eq-VERSION.false),
      ),
    )

pub returns : goal.returns
returns c =
    let i = c.loop-record.invariant.2 in
    (sym (i.4 ∙ rw (none_left (program (records c.args.image.now)) _ _ (view-end _ _ (exhausted _ _ (sym i.1 ∙ c.in-None.ensures.steps.0))), add-zero)), omega (arith, c.requires, i.2, i.3))
