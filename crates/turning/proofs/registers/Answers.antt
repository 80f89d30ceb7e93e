use Rattle.turning.proofs.Looking.{listed-call, listed-dispatch}
use Rattle.turning.proofs.registers.Goals as goal

pub returns-then-kind-eq33 : goal.returns-then-kind-eq33
returns-then-kind-eq33 c =
    listed-call _ _ _ _ c.few-n.ensures.0 c.few-n.ensures.1 c.listed.ensures.1 c.if-kind-eq33.true
    c.byte.ensures c.listed.ensures.0

pub returns : goal.returns
returns c =
    listed-dispatch _ _ _ _ c.few-n-2.ensures.0 c.few-n-2.ensures.1 c.listed-2.ensures.1 c.if-kind-eq33.false
    c.byte-2.ensures c.listed-2.ensures.0
