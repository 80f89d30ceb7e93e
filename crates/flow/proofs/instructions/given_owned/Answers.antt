use Rattle.flow.proofs.Listed.{gather-start, gather-one, gather_none, gather-end, call-one, call-other, call-past, call-over, call-done}
use native.Mathlib.Omega.{arith}
use Rattle.flow.proofs.instructions.given_owned.Goals as goal

pub loop-i-init : goal.loop-i-init
loop-i-init c =
    (omega arith, gather-start _)

pub returns-then-parameters-i : goal.returns-then-parameters-i
returns-then-parameters-i c =
    gather-end c.loop-i.invariant.1 (call-past _ _ _ _ c.field-n.ensures.0 c.parameters-parameters.ensures.0 c.registers-types.ensures.0 c.if-parameters-i.true)

pub returns-then-types-i : goal.returns-then-types-i
returns-then-types-i c =
    gather-end c.loop-i.invariant.1 (call-over _ _ _ _ c.field-n.ensures.0 c.parameters-parameters.ensures.0 c.registers-types.ensures.0 c.if-types-i.true)

pub overflow_add-i : goal.overflow_add-i
overflow_add-i c =
    omega (arith, c.loop-i-test.true, c.field-n.ensures)

pub loop-i-preserved : goal.loop-i-preserved
loop-i-preserved c = (
  omega (arith, c.loop-i-test.true),
  gather-one _ c.loop-i.invariant.1
      (call-one _ _ _ _ c.field-n.ensures.0 c.parameters-parameters.ensures.0 c.registers-types.ensures.0
      c.loop-i-test.true c.if-parameters-i.false c.if-types-i.false c.type_of.ensures.0 c.if-type_of-ne-OWNED.false) c.field.ensures.0 c.only.ensures
      c.union-registers.ensures,
)

pub loop-i-preserved-then-type_of-ne-OWNED : goal.loop-i-preserved-then-type_of-ne-OWNED
loop-i-preserved-then-type_of-ne-OWNED c = (
  omega (arith, c.loop-i-test.true),
  gather_none c.loop-i.invariant.1
      (call-other _ _ _ _ c.field-n.ensures.0 c.parameters-parameters.ensures.0 c.registers-types.ensures.0 c.loop-i-test.true c.if-parameters-i.false
      c.if-types-i.false c.type_of.ensures.0 c.if-type_of-ne-OWNED.true),
)

pub returns : goal.returns
returns c =
    gather-end c.loop-i.invariant.1 (call-done _ _ _ _ c.field-n.ensures.0 c.loop-i-test.false)
