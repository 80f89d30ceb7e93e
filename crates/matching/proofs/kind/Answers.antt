use Rattle.matching.proofs.Kinding.{cell-integer, cell-vector, cell-beyond, cell-promise, cell-empty, no_kind, whole-valued, vector-valued}
use Rattle.matching.proofs.kind.Goals as goal

pub returns-then-tag-eq1 : goal.returns-then-tag-eq1
returns-then-tag-eq1 c =
    (cell-integer _ _ _ _ _ c.if-tag-eq1.true, whole-valued)

pub returns-then-place-lt64 : goal.returns-then-place-lt64
returns-then-place-lt64 c =
    (cell-vector _ _ _ _ _ c.if-tag-eq2.true c.if-place-lt64.true, vector-valued)

pub returns-then-tag-eq2 : goal.returns-then-tag-eq2
returns-then-tag-eq2 c =
    (cell-beyond _ _ _ _ _ c.if-tag-eq2.true c.if-place-lt64.false, no_kind)

pub returns-then-tag-eq3 : goal.returns-then-tag-eq3
returns-then-tag-eq3 c =
    (cell-promise _ _ _ _ _ _ c.if-tag-eq3.true c.promise_kind.ensures.0, c.promise_kind.ensures.1)

pub returns : goal.returns
returns c =
    (cell-empty _ _ _ _ _ c.if-tag-eq1.false c.if-tag-eq2.false c.if-tag-eq3.false, no_kind)
