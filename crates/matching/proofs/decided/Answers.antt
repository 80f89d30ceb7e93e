use Rattle.matching.proofs.Picking.{decided-call, decided-dispatch, first-long}
use Rattle.matching.proofs.Gathering.{length-kinds}
use mathlib.Core.Path.{◌∙◌, sym}
use Rattle.matching.proofs.decided.Goals as goal

pub called-requires : goal.called-requires
called-requires c =
    (c.requires, first-long _ _ _ c.kinds_in-kinds.ensures (length-kinds _ _))

pub pick-requires : goal.pick-requires
pick-requires c =
    (c.requires, first-long _ _ _ c.kinds_in-kinds.ensures (length-kinds _ _))

pub returns-then-wide-eq-CALL : goal.returns-then-wide-eq-CALL
returns-then-wide-eq-CALL c =
    decided-call _ _ _ _ _ _ c.kinds_in-kinds.ensures _ (sym c.wide.ensures.0 ∙ c.if-wide-eq-CALL.true)
    c.called.ensures

pub returns-else-wide-eq-CALL : goal.returns-else-wide-eq-CALL
returns-else-wide-eq-CALL c =
    decided-dispatch _ _ _ _ _ _ c.kinds_in-kinds.ensures _ (λ e. c.if-wide-eq-CALL.false (c.wide.ensures.0 ∙ e))
    c.pick.ensures
