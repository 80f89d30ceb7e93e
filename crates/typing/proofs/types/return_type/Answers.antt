-- `typing::types::return_type`: a register's type of kind 1, 2 or 3.
use Prim.Native.Nat.{◌%◌}
use Rattle.layout.specs.Tests.{◌and◌}
use Rattle.rules.specs.Types.{kind_of, return_type}
use borrow.Author.Tests.{lt-ltb}
use mathlib.Core.Path.{sym, ◌∙◌}
use native.Mathlib.Omega.{arith}
use Rattle.typing.proofs.types.return_type.Goals as goal

pub returns-then-kind-eq-ANY : goal.returns-then-kind-eq-ANY
unfolding return_type kind_of ◌and◌
returns-then-kind-eq-ANY c =
    simp (sym c.register_type.ensures ∙ c.if-register_type.true, c.if-kind-eq-ANY.true)

pub returns-else-kind-eq-ANY : goal.returns-else-kind-eq-ANY
unfolding return_type kind_of ◌and◌
returns-else-kind-eq-ANY c =
    simp (sym c.register_type.ensures ∙ c.if-register_type.true, lt-ltb 0 (c.args.t % 16) (omega (arith, c.if-kind-eq-ANY.false)))

pub returns-else-register_type : goal.returns-else-register_type
unfolding return_type kind_of ◌and◌
returns-else-register_type c =
    simp (sym c.register_type.ensures ∙ c.if-register_type.false)
