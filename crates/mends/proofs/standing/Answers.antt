use native.Mathlib.Omega.{arith}
use mathlib.Core.Path.{◌≡◌, sym, ap, ◌∙◌}
use Rattle.layout.specs.Left.{left}
use Rattle.layout.proofs.Left.{given, exhausted}
use Rattle.mends.specs.Parts.{Told}
use Rattle.mends.proofs.Likewise.{walk_first, walk-told, walk-next, walk-size, walk_ends}
use Rattle.mends.proofs.standing.Goals as goal

pub loop-record-init : goal.loop-record-init
loop-record-init c =
    (tt, tt, (0, ap left c.into_iter-record-iterator.ensures.into_iter_gives ∙ c.of-record-items.ensures, walk_first _ _ _ c.requires.may c.requires.refused))

pub returns-then-record-why : goal.returns-then-record-why
unfolding Told
returns-then-record-why c =
    let i = c.loop-record.invariant.2 in
    let x = given _ _ (sym i.1 ∙ c.in-Some.ensures.steps) in
    walk-told (rw x.at at i.2) x.inside c.if-record-why.true c.moved-here.ensures

pub loop-record-preserved : goal.loop-record-preserved
loop-record-preserved c =
    let i = c.loop-record.invariant.2 in
    let x = given _ _ (sym i.1 ∙ c.in-Some.ensures.steps) in
    let w = rw x.at at i.2 in
    let z : c.in-Some.record.size ≡ 0 → ⊥ = λ e. omega (arith, e, walk-size w x.inside x.size) in
    (tt, tt, (_, x.whole z, walk-next w x.inside c.if-record-why.false x.size c.moved-here.ensures))

pub returns : goal.returns
returns c =
    let i = c.loop-record.invariant.2 in
    absurd (walk_ends i.2 (exhausted _ _ (sym i.1 ∙ c.in-None.ensures.steps.0)))
