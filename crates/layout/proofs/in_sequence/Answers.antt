-- `layout::in_sequence`: by the VERSION before, if there is one.
use Prim.Native.Nat.{◌+◌}
use Rattle.layout.proofs.Bools.{or-false}
use Rattle.layout.specs.Questions.{follows}
use Rattle.layout.specs.Tests.{◌and◌}
use Rattle.layout.specs.Turns.{last_at}
use borrow.Author.Tests.{eq-eqb, ne_eqb}
use mathlib.Core.Path.{◌∙◌}
use native.Mathlib.Omega.{arith}
use Rattle.layout.proofs.in_sequence.Goals as goal

pub returns-in_default : goal.returns-in_default
unfolding follows last_at
returns-in_default c =
    c.comes_first.ensures ∙ simp (c.in_default.is, ← c.field-function.ensures.0, ← c.field-version.ensures.0)

pub returns-then-function-before : goal.returns-then-function-before
unfolding follows last_at ◌and◌
returns-then-function-before c =
    simp (
      c.in-Some.is,
      ← c.field-function.ensures.0,
      ← c.field-version.ensures.0,
      ← c.field-before.ensures.0,
      ← c.field.ensures.0,
      eq-eqb _ _ c.if-function-before.true,
      ne_eqb c.field-function.result
          (c.field-before.result + 1) (omega (arith, c.if-function-before.true)),
      or-false,
    )

pub returns-then-function-before-2 : goal.returns-then-function-before-2
unfolding follows last_at ◌and◌
returns-then-function-before-2 c =
    simp (c.in-Some.is, ← c.field-function.ensures.0, ← c.field-version.ensures.0, ← c.field-before.ensures.0, ne_eqb _ _ c.if-function-before.false, eq-eqb _ _ c.if-function-before-2.true)

pub returns : goal.returns
unfolding follows last_at ◌and◌
returns c =
    simp (c.in-Some.is, ← c.field-function.ensures.0, ← c.field-version.ensures.0, ← c.field-before.ensures.0, ne_eqb _ _ c.if-function-before.false, ne_eqb _ _ c.if-function-before-2.false)
