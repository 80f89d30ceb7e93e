use Rattle.matching.proofs.Picking.{fit-begun, fit-room, fit-bit, fit_on, fit-uneven, fit-not, fit-done}
use Rattle.loaded.specs.Loaded.{version_in}
use native.Mathlib.Omega.{arith}
use mathlib.Core.Path.{refl, ◌∙◌}
use Rattle.matching.proofs.matches.Goals as goal

pub returns-then-n-most : goal.returns-then-n-most
returns-then-n-most c =
    fit-uneven (version_in c.args.image.now c.args.table.now
    c.args.j) _ _
    (c.lesser-most.ensures ∙ rw (c.parameters.ensures, c.registers-registers.ensures) refl)
    c.requires.1 c.if-n-most.true

pub loop-i-init : goal.loop-i-init
loop-i-init c =
    fit-begun _ _ _

pub overflow_cast-i : goal.overflow_cast-i
overflow_cast-i c =
    let f = c.loop-i.invariant.few in omega (arith, f, c.requires.0)

pub bounds-kinds-i : goal.bounds-kinds-i
bounds-kinds-i c =
    let f = c.loop-i.invariant.few in omega (arith, f, c.loop-i-test.true, c.requires.0)

pub overflow_mul-owned : goal.overflow_mul-owned
overflow_mul-owned c =
    let r = fit-room _ _ _ _ _ c.loop-i.invariant c.loop-i-test.true
    c.requires.0 in omega (arith, r)

pub overflow_add-owned : goal.overflow_add-owned
overflow_add-owned c =
    let r = fit-bit _ _ _ _ _ c.loop-i.invariant c.loop-i-test.true _ _
    c.requires.0 c.bit.ensures in omega (arith, r)

pub loop-i-smaller : goal.loop-i-smaller
loop-i-smaller c =
    omega (arith, c.loop-i-test.true)

pub loop-i-preserved : goal.loop-i-preserved
loop-i-preserved c =
    fit_on _ _ _ _ _ c.loop-i.invariant c.loop-i-test.true
    c.wide.ensures.0 c.type_of-t.ensures c.is_within.ensures c.if-is_within.true
    c.bit.ensures

pub returns-else-is_within : goal.returns-else-is_within
returns-else-is_within c =
    let f = c.loop-i.invariant.few in fit-not
    (version_in c.args.image.now
    c.args.table.now
    c.args.j)
    c.args.kinds.now _
    (c.lesser-most.ensures ∙ rw (
      c.parameters.ensures,
      c.registers-registers.ensures,
    ) refl)
    c.requires.1
    c.if-n-most.false _ (omega (arith, f, c.loop-i-test.true))
    c.wide.ensures.0 c.type_of-t.ensures c.is_within.ensures c.if-is_within.false

pub returns : goal.returns
returns c =
    fit-done (version_in c.args.image.now
    c.args.table.now c.args.j) _ _
    (c.lesser-most.ensures ∙ rw (c.parameters.ensures, c.registers-registers.ensures) refl)
    c.requires.1 c.if-n-most.false _ _ c.loop-i.invariant (omega (arith, c.loop-i-test.false))
