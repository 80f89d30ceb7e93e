use Rattle.bounds.proofs.Pairs.{pairs_first, pairs-uneven, pairs-last, pairs-alike, pairs-unlike, parameter-at}
use mathlib.Core.Path.{sym, ◌∙◌}
use native.Mathlib.Omega.{arith}
use Rattle.bounds.proofs.signatures.same_ownerships.Goals as goal

pub returns-then-n-parameters_of : goal.returns-then-n-parameters_of
returns-then-n-parameters_of c =
    pairs-uneven _ _ _ (λ e. c.if-n-parameters_of.true (c.field-n.ensures.0 ∙ e ∙ sym c.parameters_of.ensures))

pub loop-i-init : goal.loop-i-init
loop-i-init c =
    (c.field-n.ensures.0, c.if-n-parameters_of.false ∙ c.parameters_of.ensures, rw (← c.field-n.ensures.0) (pairs_first _ _ _))

pub overflow_mul-i : goal.overflow_mul-i
overflow_mul-i c =
    omega (arith, c.field-n.ensures.1, c.loop-i-test.true)

pub overflow_add-i : goal.overflow_add-i
overflow_add-i c =
    omega (arith, c.field-n.ensures.1, c.loop-i-test.true)

pub loop-i-preserved : goal.loop-i-preserved
loop-i-preserved c = (
  c.loop-i.invariant.0,
  c.loop-i.invariant.1,
  c.loop-i.invariant.2
      ∙ pairs-alike _ _ _ c.loop-i.invariant.1 _ c.loop-i-test.true c.field.ensures.0 (c.type_of.ensures.0 ∙ sym (parameter-at _ _ _ (omega (arith, c.loop-i-test.true, c.loop-i.invariant.1)))) c.if-field-type_of.false,
)

pub returns-then-field-type_of : goal.returns-then-field-type_of
returns-then-field-type_of c =
    sym (c.loop-i.invariant.2
    ∙ pairs-unlike _ _ _ c.loop-i.invariant.1 _ c.loop-i-test.true c.field.ensures.0 (c.type_of.ensures.0 ∙ sym (parameter-at _ _ _ (omega (arith, c.loop-i-test.true, c.loop-i.invariant.1)))) c.if-field-type_of.true)

pub returns : goal.returns
returns c =
    sym (c.loop-i.invariant.2 ∙ pairs-last _ _ _ c.loop-i.invariant.1 _ c.loop-i-test.false)
