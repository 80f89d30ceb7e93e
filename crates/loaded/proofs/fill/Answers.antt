use mathlib.Core.Path.{refl, sym, ◌∙◌, ap}
use native.Mathlib.Omega.{arith}
use Rattle.layout.proofs.Walk.{size_in}
use Rattle.loaded.proofs.Entries.{fill_on, filled-broken, filled-end}
use Rattle.layout.proofs.Left.{given, exhausted}
use Rattle.layout.specs.Left.{left}
use Rattle.loaded.proofs.fill.Goals as goal

pub loop-record-init : goal.loop-record-init
loop-record-init c =
    (tt, tt, (0, ap left c.into_iter-record-iterator.ensures.into_iter_gives ∙ c.of-record-items.ensures, record { inside = omega arith; places = omega arith; blocks = omega arith; long = refl; left = refl }))

pub shape_of-table-then-record-eq0 : goal.shape_of-table-then-record-eq0
shape_of-table-then-record-eq0 c =
    let i = c.loop-record.invariant.2 in
    i.2.long

pub returns-then-record-eq0 : goal.returns-then-record-eq0
returns-then-record-eq0 c =
    let i = c.loop-record.invariant.2 in
    let x = given _ _ (sym i.1 ∙ c.in-Some.ensures.steps) in
    sym (filled-broken _ _ _ _ x.inside (sym x.size ∙ c.if-record-eq0.true)) ∙ (rw x.at at i.2).left

pub enter-at-requires : goal.enter-at-requires
enter-at-requires c =
    let i = c.loop-record.invariant.2 in
    let x = given _ _ (sym i.1 ∙ c.in-Some.ensures.steps) in (
      omega (arith, x.inside, c.requires),
      omega
          (arith, (rw x.at at i.2).places, x.inside, c.requires),
      omega
          (arith, (rw x.at at i.2).blocks, x.inside, c.requires),
    )

pub loop-record-preserved : goal.loop-record-preserved
loop-record-preserved c =
    let i = c.loop-record.invariant.2 in
    let x = given _ _ (sym i.1 ∙ c.in-Some.ensures.steps) in (
      tt,
      tt,
      (
        _,
        x.whole c.if-record-eq0.false,
        let s = x.size in
            let z = c.if-record-eq0.false in
            let e = c.enter-at.ensures in
            fill_on _ _ _ _ _ _ _ _ (rw x.at at i.2) x.inside s z
            (size_in _ _ s z).1 e.0 e.1 e.2 e.3,
      ),
    )

pub shape_of-table : goal.shape_of-table
shape_of-table c =
    let i = c.loop-record.invariant.2 in
    i.2.long

pub returns : goal.returns
returns c =
    let i = c.loop-record.invariant.2 in
    sym (filled-end _ _ _ _ (exhausted _ _ (sym i.1 ∙ c.in-None.ensures.steps.0))) ∙ i.2.left
