use Rattle.layout.proofs.Walk.{size_in}
use Rattle.program.proofs.Tables.{function-nowhere, function-here, function-later, function-behind}
use Rattle.program.proofs.Views.{view-end, view-past}
use mathlib.Core.Path.{refl, sym, ◌∙◌, ap}
use native.Mathlib.Omega.{arith}
use Rattle.layout.proofs.Left.{given, exhausted}
use Rattle.layout.specs.Left.{left}
use Rattle.program.proofs.lookup.search_function.Goals as goal

pub loop-record-init : goal.loop-record-init
loop-record-init c =
    (tt, tt, (0, ap left c.into_iter-record-iterator.ensures.into_iter_gives ∙ c.of-record-items.ensures, refl))

pub returns-then-record-eq0 : goal.returns-then-record-eq0
returns-then-record-eq0 c =
    let i = c.loop-record.invariant.2 in
    let x = given _ _ (sym i.1 ∙ c.in-Some.ensures.steps) in
    sym ((rw x.at at i.2) ∙ function-nowhere _ _ _ (view-past _ _ (sym x.size ∙ c.if-record-eq0.true)))

pub returns-then-field-f : goal.returns-then-field-f
returns-then-field-f c =
    let i = c.loop-record.invariant.2 in
    let x = given _ _ (sym i.1 ∙ c.in-Some.ensures.steps) in
    sym ((rw x.at at i.2)
    ∙ function-here (record { inside = x.inside; size = x.size; whole = c.if-record-eq0.false; kind = c.kind_at.ensures }) _ c.if-kind_at-eq-VERSION.true (sym c.field.ensures.0 ∙ c.if-field-f.true))

pub loop-record-preserved-else-field-f : goal.loop-record-preserved-else-field-f
loop-record-preserved-else-field-f c =
    let i = c.loop-record.invariant.2 in
    let x = given _ _ (sym i.1 ∙ c.in-Some.ensures.steps) in (
      tt,
      tt,
      (
        _,
        x.whole c.if-record-eq0.false,
        (rw x.at at i.2)
            ∙ function-later (record { inside = x.inside; size = x.size; whole = c.if-record-eq0.false; kind = c.kind_at.ensures }) _ c.if-kind_at-eq-VERSION.true (λ e. c.if-field-f.false (c.field.ensures.0 ∙ e)),
      ),
    )

pub loop-record-preserved : goal.loop-record-preserved
loop-record-preserved c =
    let i = c.loop-record.invariant.2 in
    let x = given _ _ (sym i.1 ∙ c.in-Some.ensures.steps) in (
      tt,
      tt,
      (
        _,
        x.whole c.if-record-eq0.false,
        (rw x.at at i.2)
            ∙ function-behind (record { inside = x.inside; size = x.size; whole = c.if-record-eq0.false; kind = c.kind_at.ensures }) _ c.if-kind_at-eq-VERSION.false,
      ),
    )

pub returns : goal.returns
returns c =
    let i = c.loop-record.invariant.2 in
    sym (i.2 ∙ function-nowhere _ _ _ (view-end _ _ (exhausted _ _ (sym i.1 ∙ c.in-None.ensures.steps.0))))
