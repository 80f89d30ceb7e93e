-- `typing::registers::is_promise`: the kind of its type.
use Rattle.rules.specs.Types.{is_promise}
use borrow.Author.Tests.{eq-eqb, ne_eqb}
use Rattle.typing.proofs.registers.is_promise.Goals as goal

pub returns-then-kind-eq-PROMISE : goal.returns-then-kind-eq-PROMISE
unfolding is_promise
returns-then-kind-eq-PROMISE c =
    simp (← c.kind_in-kind.ensures, eq-eqb _ _ c.if-kind-eq-PROMISE.true)

pub returns-else-kind-eq-PROMISE : goal.returns-else-kind-eq-PROMISE
unfolding is_promise
returns-else-kind-eq-PROMISE c =
    simp (← c.kind_in-kind.ensures, ne_eqb _ _ c.if-kind-eq-PROMISE.false)
