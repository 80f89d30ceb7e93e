use Rattle.bounds.proofs.Writing.{begin-outside, begin-first, begin-on}
use Rattle.layout.proofs.Walk.{size_room, size_in}
use Rattle.program.proofs.Views.{is-lined, line-none}
use mathlib.Core.Path.{sym, ◌∙◌}
use native.Mathlib.Omega.{arith}
use Rattle.bounds.proofs.order.start.Goals as goal

pub returns-then-image-v : goal.returns-then-image-v
returns-then-image-v c =
    begin-outside _ _ c.if-image-v.true

pub overflow_add-p : goal.overflow_add-p
overflow_add-p c =
    omega (arith, c.size_at.ensures, size_room c.args.image.now c.args.v (omega (arith, c.if-image-v.false)))

pub loop-p-init : goal.loop-p-init
loop-p-init c =
    (omega (arith, c.size_at.ensures, size_room c.args.image.now c.args.v (omega (arith, c.if-image-v.false))), begin-first _ _ c.size_at.ensures)

pub overflow_add-p-in-loop-p : goal.overflow_add-p-in-loop-p
overflow_add-p-in-loop-p c =
    let l = is-lined _ _ (sym c.is_line.ensures ∙ c.loop-p-test.true) in omega (arith, size_in _ _ c.size_at-p.ensures (λ z. l.whole (sym c.size_at-p.ensures ∙ z)))

pub loop-p-smaller : goal.loop-p-smaller
loop-p-smaller c =
    let l = is-lined _ _ (sym c.is_line.ensures ∙ c.loop-p-test.true) in omega (arith, l.inside, size_in _ _ c.size_at-p.ensures (λ z. l.whole (sym c.size_at-p.ensures ∙ z)))

pub loop-p-preserved : goal.loop-p-preserved
loop-p-preserved c =
    let l = is-lined _ _ (sym c.is_line.ensures ∙ c.loop-p-test.true) in (omega (arith, size_in _ _ c.size_at-p.ensures (λ z. l.whole (sym c.size_at-p.ensures ∙ z))), begin-on _ _ c.size_at-p.ensures (sym c.is_line.ensures ∙ c.loop-p-test.true) ∙ c.loop-p.invariant.1)

pub returns : goal.returns
returns c =
    record { code = line-none _ _ (sym c.is_line.ensures ∙ c.loop-p-test.false); blocks = c.loop-p.invariant.1 }
