use Rattle.store.specs.Store.{cell_in}
use Rattle.matching.proofs.Kinding.{register-past, register-at, cell-integer, no_kind, whole-valued}
use Rattle.matching.proofs.register_kind.Goals as goal

pub returns-then-c-ge16 : goal.returns-then-c-ge16
returns-then-c-ge16 c =
    (λ n. register-past _ _ n _ _ c.if-c-ge16.true, no_kind)

pub returns-then-tag-eq1 : goal.returns-then-tag-eq1
unfolding cell_in
returns-then-tag-eq1 c =
    (λ n. register-at _ _ n _ _ _ c.if-c-ge16.false (cell-integer _ _ _ _ _ c.if-tag-eq1.true n _), whole-valued)

pub returns : goal.returns
unfolding cell_in
returns c =
    (λ n. register-at _ _ n _ _ _ c.if-c-ge16.false (c.kind.ensures.0 n _), c.kind.ensures.1)
