use native.Mathlib.Omega.{arith}
use mathlib.Core.Path.{sym, ◌∙◌, ap}
use Rattle.layout.proofs.Walk.{size_in}
use Rattle.moves.proofs.Parts.{measure-first, measure-next, measured-end, measured-unfit, measuring-stands}
use Rattle.layout.proofs.Left.{given, exhausted}
use Rattle.layout.specs.Left.{left}
use Rattle.moves.proofs.measure.Goals as goal

pub loop-record-init : goal.loop-record-init
loop-record-init c =
    (tt, tt, (0, ap left c.into_iter-record-iterator.ensures.into_iter_gives ∙ c.of-record-items.ensures, measure-first _ _ c.requires))

pub moved_length-total-requires : goal.moved_length-total-requires
moved_length-total-requires c =
    let i = c.loop-record.invariant.2 in
    let x = given _ _ (sym i.1 ∙ c.in-Some.ensures.steps) in
    measuring-stands c.requires (rw x.at at i.2) x.inside

pub overflow_add-total : goal.overflow_add-total
overflow_add-total c =
    let i = c.loop-record.invariant.2 in
    let x = given _ _ (sym i.1 ∙ c.in-Some.ensures.steps) in
    let st = measuring-stands c.requires (rw x.at at i.2) x.inside in
    let small = (rw x.at at i.2).small in
    let room = size_in _ _ x.size (λ z. st.whole (sym x.size ∙ z)) in
    omega (arith, c.requires.short, small, c.moved_length-total.ensures.1, x.size, room)

pub loop-record-preserved : goal.loop-record-preserved
loop-record-preserved c =
    let i = c.loop-record.invariant.2 in
    let x = given _ _ (sym i.1 ∙ c.in-Some.ensures.steps) in (
      tt,
      tt,
      (
        _,
        x.whole (λ z. (measuring-stands c.requires (rw x.at at i.2) x.inside).whole (sym x.size ∙ z)),
        measure-next c.requires (rw x.at at i.2) x.inside x.size (sym c.passes.ensures ∙ c.if-not-passes.false) c.moved_length-total.ensures.0
            c.moved_length-total.ensures.1,
      ),
    )

pub returns-then-not-passes : goal.returns-then-not-passes
returns-then-not-passes c =
    let i = c.loop-record.invariant.2 in
    let x = given _ _ (sym i.1 ∙ c.in-Some.ensures.steps) in
    measured-unfit c.requires (rw x.at at i.2) x.inside (sym c.passes.ensures ∙ c.if-not-passes.true)

pub returns : goal.returns
returns c =
    let i = c.loop-record.invariant.2 in
    measured-end c.requires i.2 (exhausted _ _ (sym i.1 ∙ c.in-None.ensures.steps.0))
