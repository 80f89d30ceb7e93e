-- `layout::field`: a field is a byte of the body, and past the body it reads 0.
use Rattle.layout.proofs.Walk.{size_in, body-at, body-past}
use mathlib.Core.Path.{sym, ◌∙◌}
use native.Mathlib.Omega.{arith}
use Rattle.layout.proofs.field.Goals as goal

pub returns-then-n-lt4 : goal.returns-then-n-lt4
returns-then-n-lt4 c =
    (sym (body-past _ _ _ (omega (arith, c.size_at-n.ensures))), omega arith)

pub returns-then-n-k : goal.returns-then-n-k
returns-then-n-k c =
    (sym (body-past _ _ _ (omega (arith, c.size_at-n.ensures))), omega arith)

pub overflow_add-p : goal.overflow_add-p
overflow_add-p c =
    omega (arith, size_in _ _ c.size_at-n.ensures (omega arith))

pub overflow_add-p-2 : goal.overflow_add-p-2
overflow_add-p-2 c =
    omega (arith, size_in _ _ c.size_at-n.ensures (omega arith))

pub bounds-image-p : goal.bounds-image-p
bounds-image-p c =
    omega (arith, size_in _ _ c.size_at-n.ensures (omega arith))

pub returns : goal.returns
returns c =
    (c.wide.ensures.0 ∙ sym (body-at _ _ _ (omega (arith, c.size_at-n.ensures))), c.wide.ensures.1)
