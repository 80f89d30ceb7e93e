use Rattle.flow.proofs.Listed.{gather-start, gather-one, gather_none, gather-end, pair_one, pair-other, pair-done, pairs-beside}
use Rattle.rules.specs.Actions.{emptied}
use mathlib.Core.Path.{ap}
use native.Mathlib.Omega.{arith}
use Rattle.flow.proofs.instructions.paired_owned.Goals as goal

pub loop-i-init : goal.loop-i-init
loop-i-init c =
    (omega arith, gather_none (gather-start _) (ap emptied (pairs-beside _ 5 _)))

pub overflow_mul-i : goal.overflow_mul-i
overflow_mul-i c =
    omega (arith, c.loop-i-test.true, c.field-n.ensures)

pub overflow_mul-i-in-loop-i : goal.overflow_mul-i-in-loop-i
overflow_mul-i-in-loop-i c =
    omega (arith, c.loop-i-test.true, c.field-n.ensures)

pub overflow_add-i-in-loop-i : goal.overflow_add-i-in-loop-i
overflow_add-i-in-loop-i c =
    omega (arith, c.loop-i-test.true, c.field-n.ensures)

pub loop-i-preserved : goal.loop-i-preserved
loop-i-preserved c = (
  omega (arith, c.loop-i-test.true),
  gather-one _ c.loop-i.invariant.1
      (pair_one _ _ _ c.field-n.ensures.0 c.loop-i-test.true c.field.ensures.0 c.if-field-ne-OWNED.false) c.field-in-loop-i.ensures.0 c.only.ensures c.union-registers.ensures,
)

pub loop-i-preserved-then-field-ne-OWNED : goal.loop-i-preserved-then-field-ne-OWNED
loop-i-preserved-then-field-ne-OWNED c =
    (omega (arith, c.loop-i-test.true), gather_none c.loop-i.invariant.1 (pair-other _ _ _ c.field-n.ensures.0 c.loop-i-test.true c.field.ensures.0 c.if-field-ne-OWNED.true))

pub returns : goal.returns
returns c =
    gather-end c.loop-i.invariant.1 (pair-done _ _ _ c.field-n.ensures.0 c.loop-i-test.false)
