-- `abi::answers::form`: by the number.
use mathlib.Core.Path.{refl}
use borrow.Author.Tests.{eq-eqb, ne_eqb}
use Rattle.abi.specs.Answers.{form_of}
use Rattle.abi.proofs.answers.form.Goals as goal

pub returns-then-number-eq1 : goal.returns-then-number-eq1
unfolding form_of
returns-then-number-eq1 c =
    rw (eq-eqb _ _ c.if-number-eq1.true) refl

pub returns-else-number-eq1 : goal.returns-else-number-eq1
unfolding form_of
returns-else-number-eq1 c =
    rw (ne_eqb _ _ c.if-number-eq1.false) refl
