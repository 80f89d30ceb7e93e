use native.Mathlib.Omega.{arith}
use mathlib.Core.Path.{sym, ◌∙◌, ap}
use Rattle.layout.proofs.Walk.{size_in}
use Rattle.moves.proofs.Parts.{move-first, move-fits, move-last, move-next, move-stands}
use Rattle.layout.proofs.Left.{given, exhausted}
use Rattle.layout.specs.Left.{left}
use Rattle.moves.proofs.put_records.Goals as goal

pub loop-record-init : goal.loop-record-init
loop-record-init c =
    (tt, tt, (0, ap left c.into_iter-record-iterator.ensures.into_iter_gives ∙ c.of-record-items.ensures, move-first _ _ _ c.requires.ready))

pub put_record-at-requires : goal.put_record-at-requires
put_record-at-requires c =
    let i = c.loop-record.invariant.2 in
    let x = given _ _ (sym i.1 ∙ c.in-Some.ensures.steps) in
    record { stands = move-stands c.requires.ready (rw x.at at i.2) x.inside; p_in_bounds = move-fits c.requires.ready (rw x.at at i.2) x.inside c.requires.image_in_bounds }

pub loop-record-preserved : goal.loop-record-preserved
loop-record-preserved c =
    let i = c.loop-record.invariant.2 in
    let x = given _ _ (sym i.1 ∙ c.in-Some.ensures.steps) in
    (tt, tt, (_, x.whole (λ z. (move-stands c.requires.ready (rw x.at at i.2) x.inside).whole (sym x.size ∙ z)), move-next c.requires.ready (rw x.at at i.2) x.inside c.requires.image_in_bounds x.size c.put_record-at.ensures.0 c.put_record-at.ensures.1))

pub returns : goal.returns
returns c =
    let i = c.loop-record.invariant.2 in
    move-last c.requires.ready i.2 (exhausted _ _ (sym i.1 ∙ c.in-None.ensures.steps.0))
