use Rattle.std.proofs.Common.{ap, sym, ◌∙◌, refl}
use Rattle.layout.proofs.Fields.{left_of}
use Rattle.flow.proofs.Listed.{Gathers, gather-start, gather-one, gather-end}
use Rattle.flow.proofs.instructions.named.Goals as goal

pub loop-r-init : goal.loop-r-init
loop-r-init c =
    let e = ap left_of c.into_iter-r-iterator.ensures.into_iter_gives ∙ c.of-r-items.ensures in
    (tt, tt, rw e (gather-start _))

pub loop-r-preserved : goal.loop-r-preserved
loop-r-preserved c =
    (tt, tt, gather-one _ c.loop-r.invariant.2 c.in-Some.ensures.steps refl c.only.ensures c.union-registers.ensures)

pub returns : goal.returns
returns c =
    gather-end c.loop-r.invariant.2 c.in-None.ensures.steps.0
