-- `typing::types::is_within`: by the kind on the right.
use Rattle.typing.proofs.Within.{within-any, within-value, within-promise, within-other}
use Rattle.rules.specs.Types.{within}
use borrow.Author.Tests.{eq-eqb, ne_eqb}
use Rattle.typing.proofs.types.is_within.Goals as goal

pub returns-in-0 : goal.returns-in-0
returns-in-0 c =
    within-any _ c.in-0.is

pub returns-then-a-eq-VALUE : goal.returns-then-a-eq-VALUE
unfolding within
returns-then-a-eq-VALUE c =
    simp (c.in-1.is, eq-eqb _ _ c.if-a-eq-VALUE.true)

pub returns-then-a-eq-INTEGER : goal.returns-then-a-eq-INTEGER
unfolding within
returns-then-a-eq-INTEGER c =
    simp (c.in-1.is, ne_eqb _ _ c.if-a-eq-VALUE.false, eq-eqb _ _ c.if-a-eq-INTEGER.true)

pub returns-else-a-eq-INTEGER : goal.returns-else-a-eq-INTEGER
returns-else-a-eq-INTEGER c =
    within-value _ c.in-1.is c.if-a-eq-VALUE.false c.if-a-eq-INTEGER.false

pub returns-then-a-eq-REFLECTIVE : goal.returns-then-a-eq-REFLECTIVE
unfolding within
returns-then-a-eq-REFLECTIVE c =
    simp (c.in-5.is, eq-eqb _ _ c.if-a-eq-REFLECTIVE.true)

pub returns-else-a-eq-REFLECTIVE : goal.returns-else-a-eq-REFLECTIVE
returns-else-a-eq-REFLECTIVE c =
    within-promise _ c.in-5.is c.if-a-eq-REFLECTIVE.false

pub returns-in_default : goal.returns-in_default
returns-in_default c =
    within-other _ c.in_default.in_default-own.rest.0.0.1 c.in_default.in_default-own.rest.0.1 c.in_default.in_default-own.rest.1
