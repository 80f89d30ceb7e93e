use Rattle.matching.proofs.Kinding.{returned-none, returned-is, told-is}
use Rattle.matching.proofs.returned.Goals as goal

pub returns-then-m-eq0 : goal.returns-then-m-eq0
returns-then-m-eq0 c =
    λ n. returned-none _ _ _ n _ _ (c.register_kind-m.ensures.0 n) c.if-m-eq0.true

pub returns : goal.returns
returns c =
    λ n. returned-is _ _ _ n _ _ (c.register_kind-m.ensures.0 n) c.if-m-eq0.false _
    c.returns.ensures c.is_within.ensures (told-is _)
