-- `mends::may_mend`: by the number.
use borrow.Author.Tests.{ne_eqb}
use Rattle.mends.specs.Mends.{mendable}
use Rattle.mends.proofs.may_mend.Goals as goal

pub returns-in-6 : goal.returns-in-6
unfolding mendable
returns-in-6 c =
    rw c.in-6.is

pub returns-in-8 : goal.returns-in-8
unfolding mendable
returns-in-8 c =
    rw c.in-8.is

pub returns-in-9 : goal.returns-in-9
unfolding mendable
returns-in-9 c =
    rw c.in-9.is

pub returns-in-10 : goal.returns-in-10
unfolding mendable
returns-in-10 c =
    rw c.in-10.is

pub returns-in_default : goal.returns-in_default
unfolding mendable
returns-in_default c =
    simp (ne_eqb _ _ c.in_default.in_default-own.rest.0.0.0.1, ne_eqb _ _ c.in_default.in_default-own.rest.0.0.1, ne_eqb _ _ c.in_default.in_default-own.rest.0.1, ne_eqb _ _ c.in_default.in_default-own.rest.1)
