-- `joins::function_place`: by the kind.
use borrow.Author.Tests.{ne_eqb}
use Rattle.layout.specs.Records.{choose}
use Rattle.joins.specs.Parts.{function_place}
use Rattle.joins.proofs.function_place.Goals as goal

pub returns-in-1 : goal.returns-in-1
unfolding function_place choose
returns-in-1 c =
    rw c.in-1.is

pub returns-in-33 : goal.returns-in-33
unfolding function_place choose
returns-in-33 c =
    rw c.in-33.is

pub returns-in-34 : goal.returns-in-34
unfolding function_place choose
returns-in-34 c =
    rw c.in-34.is

pub returns-in_default : goal.returns-in_default
unfolding function_place choose
returns-in_default c =
    simp (ne_eqb _ _ c.in_default.in_default-own.rest.0.0.1, ne_eqb _ _ c.in_default.in_default-own.rest.0.1, ne_eqb _ _ c.in_default.in_default-own.rest.1)
