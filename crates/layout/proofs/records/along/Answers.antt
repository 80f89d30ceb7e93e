use Rattle.std.proofs.Common.{sym, ◌∙◌}
use Rattle.layout.proofs.Left.{given, exhausted, stands}
use Rattle.layout.proofs.Along.{along-end, along-broken, along-stopped, along-passed}
use Rattle.layout.proofs.records.along.Goals as goal

pub returns-then-record-eq0 : goal.returns-then-record-eq0
returns-then-record-eq0 g c t m =
    let i = c.loop-record.invariant.3 in
    sym (i.2 t m ∙ along-broken t _ _ (given _ _ (sym i.1 ∙ c.in-Some.ensures.steps)) c.if-record-eq0.true)

pub returns-in_default : goal.returns-in_default
returns-in_default g c t m =
    let i = c.loop-record.invariant.3 in
    let x = given _ _ (sym i.1 ∙ c.in-Some.ensures.steps) in
    sym (i.2 t m ∙ along-stopped t _ _ x c.if-record-eq0.false (sym (m _ _ _ (stands x c.if-record-eq0.false) c.turn.ensures) ∙ c.in_default.is))

pub loop-record-preserved : goal.loop-record-preserved
loop-record-preserved g c =
    let i = c.loop-record.invariant.3 in
    let x = given _ _ (sym i.1 ∙ c.in-Some.ensures.steps) in
    (tt, tt, c.loop-record.invariant.2, (_, x.whole c.if-record-eq0.false, λ t m. i.2 t m ∙ along-passed t _ _ x c.if-record-eq0.false _ (sym (m _ _ _ (stands x c.if-record-eq0.false) c.turn.ensures) ∙ c.in-Some-turn.is)))

pub returns : goal.returns
returns g c t m =
    let i = c.loop-record.invariant.3 in
    sym (i.2 t m ∙ along-end t _ _ _ (exhausted _ _ (sym i.1 ∙ c.in-None.ensures.steps.0)))
