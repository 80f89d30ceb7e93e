use Rattle.matching.proofs.Kinding.{typed-none, typed-outside, typed-is, told-is}
use Rattle.matching.proofs.typed.Goals as goal

pub returns-then-m-eq0 : goal.returns-then-m-eq0
returns-then-m-eq0 c =
    λ n. typed-none _ _ _ n _ _ (c.register_kind-m.ensures.0 n) _ c.if-m-eq0.true

pub returns-then-registers-d : goal.returns-then-registers-d
returns-then-registers-d c =
    λ n. typed-outside _ _ _ n _ _ (c.register_kind-m.ensures.0 n) c.if-m-eq0.false _ c.registers.ensures c.if-registers-d.true

pub returns : goal.returns
returns c =
    λ n. typed-is _ _ _ n _ _ (c.register_kind-m.ensures.0 n) c.if-m-eq0.false _
    c.registers.ensures c.if-registers-d.false _ c.type_of.ensures
    c.is_within.ensures (told-is _)
