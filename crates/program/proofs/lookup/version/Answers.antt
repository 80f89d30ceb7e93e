use Rattle.layout.proofs.Walk.{size_in}
use Rattle.program.proofs.Lookups.{version_from, version-nowhere, version-here, version-later}
use Rattle.program.proofs.Views.{view-end, view-past}
use Rattle.program.specs.Places.{version_place}
use mathlib.Core.Path.{refl, sym, ◌∙◌, ap}
use native.Mathlib.Omega.{arith}
use Rattle.layout.proofs.Left.{given, exhausted}
use Rattle.layout.specs.Left.{left}
use Rattle.program.proofs.lookup.version.Goals as goal

pub loop-record-init : goal.loop-record-init
unfolding version_place version_from
loop-record-init c =
    (tt, tt, (0, ap left c.into_iter-record-iterator.ensures.into_iter_gives ∙ c.of-record-items.ensures, refl))

pub returns-then-record-eq0 : goal.returns-then-record-eq0
returns-then-record-eq0 c =
    let i = c.loop-record.invariant.2 in
    let x = given _ _ (sym i.1 ∙ c.in-Some.ensures.steps) in
    sym ((rw x.at at i.2) ∙ version-nowhere _ _ _ _ (view-past _ _ (sym x.size ∙ c.if-record-eq0.true)))

pub returns-then-is_version : goal.returns-then-is_version
returns-then-is_version c =
    let i = c.loop-record.invariant.2 in
    let x = given _ _ (sym i.1 ∙ c.in-Some.ensures.steps) in
    sym ((rw x.at at i.2) ∙ version-here (record { inside = x.inside; size = x.size; whole = c.if-record-eq0.false; kind = refl }) _ _ (sym c.is_version.ensures ∙ c.if-is_version.true))

pub loop-record-preserved : goal.loop-record-preserved
loop-record-preserved c =
    let i = c.loop-record.invariant.2 in
    let x = given _ _ (sym i.1 ∙ c.in-Some.ensures.steps) in (
      tt,
      tt,
      (
        _,
        x.whole c.if-record-eq0.false,
        (rw x.at at i.2)
            ∙ version-later (record { inside = x.inside; size = x.size; whole = c.if-record-eq0.false; kind = refl }) _ _ (sym c.is_version.ensures ∙ c.if-is_version.false),
      ),
    )

pub returns : goal.returns
returns c =
    let i = c.loop-record.invariant.2 in
    sym (i.2 ∙ version-nowhere _ _ _ _ (view-end _ _ (exhausted _ _ (sym i.1 ∙ c.in-None.ensures.steps.0))))
