use mathlib.Core.Path.{refl, ◌∙◌}
use native.Mathlib.Omega.{arith}
use Rattle.loaded.proofs.Dispatching.{other-count, other-ownership, same_more, all_same}
use Rattle.loaded.proofs.dispatch.same_ownerships.Goals as goal

pub returns-then-n-lesser : goal.returns-then-n-lesser
returns-then-n-lesser c = other-count c.args.image.now
    c.args.table.now c.args.p
    c.args.k
    (c.lesser-n.ensures ∙ rw c.byte.ensures refl)
    (c.lesser.ensures ∙ rw (c.parameters.ensures, c.registers-most.ensures) refl) c.if-n-lesser.true

pub loop-i-init : goal.loop-i-init
loop-i-init c = (omega arith, λ j l. absurd (omega arith))

pub returns-then-asked-has : goal.returns-then-asked-has
returns-then-asked-has c = other-ownership c.args.image.now
    c.args.table.now
    c.args.p
    c.args.k
    (c.lesser-n.ensures ∙ rw
    c.byte.ensures refl)
    (c.lesser.ensures ∙ rw
    (c.parameters.ensures, c.registers-most.ensures) refl)
    c.if-n-lesser.false c.loop-i.i c.loop-i-test.true
    c.byte-asked.ensures c.type_of-has.ensures c.if-asked-has.true

pub loop-i-preserved : goal.loop-i-preserved
loop-i-preserved c = (
  omega (arith, c.loop-i-test.true),
  same_more
      c.args.image.now
      c.args.table.now
      c.args.p
      c.args.k c.loop-i.i
      c.loop-i.invariant.1 c.byte-asked.ensures c.type_of-has.ensures c.if-asked-has.false,
)

pub returns : goal.returns
returns c = all_same c.args.image.now
    c.args.table.now
    c.args.p
    c.args.k
    (c.lesser-n.ensures ∙ rw c.byte.ensures refl)
    (c.lesser.ensures ∙ rw (c.parameters.ensures, c.registers-most.ensures) refl)
    c.if-n-lesser.false (λ i l. c.loop-i.invariant.1 i (omega (arith, c.loop-i-test.false)))
