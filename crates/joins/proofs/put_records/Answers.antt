use native.Mathlib.Omega.{arith}
use mathlib.Core.Path.{sym, ◌∙◌, ap}
use Rattle.layout.proofs.Walk.{size_in}
use Rattle.joins.proofs.Parts.{raise-first, raise-stands, raise-fits, raise-next, raise-last}
use Rattle.layout.proofs.Left.{given, exhausted}
use Rattle.layout.specs.Left.{left}
use Rattle.joins.proofs.put_records.Goals as goal

pub loop-record-init : goal.loop-record-init
loop-record-init c =
    (tt, tt, (0, ap left c.into_iter-record-iterator.ensures.into_iter_gives ∙ c.of-record-items.ensures, raise-first _ _ _ _ c.requires.ready))

pub put_record-at-requires : goal.put_record-at-requires
put_record-at-requires c =
    let i = c.loop-record.invariant.2 in
    let x = given _ _ (sym i.1 ∙ c.in-Some.ensures.steps) in
    record { stands = raise-stands c.requires.ready (rw x.at at i.2) x.inside; p_in_bounds = raise-fits c.requires.ready (rw x.at at i.2) x.inside c.requires.image_in_bounds }

pub loop-record-preserved : goal.loop-record-preserved
loop-record-preserved c =
    let i = c.loop-record.invariant.2 in
    let x = given _ _ (sym i.1 ∙ c.in-Some.ensures.steps) in
    (tt, tt, (_, x.whole (λ z. (raise-stands c.requires.ready (rw x.at at i.2) x.inside).whole (sym x.size ∙ z)), raise-next c.requires.ready (rw x.at at i.2) x.inside c.requires.image_in_bounds x.size c.put_record-at.ensures.0 c.put_record-at.ensures.1))

pub returns : goal.returns
returns c =
    let i = c.loop-record.invariant.2 in
    raise-last c.requires.ready i.2 (exhausted _ _ (sym i.1 ∙ c.in-None.ensures.steps.0))
