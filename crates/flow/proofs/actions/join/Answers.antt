use Rattle.rules.specs.Actions.{join}
use Rattle.flow.specs.Masks.{flowed}
use Rattle.flow.proofs.actions.join.Goals as goal

pub returns-in-Some-way : goal.returns-in-Some-way
unfolding flowed join
returns-in-Some-way c =
    simp (c.in-Some.is, c.in-Some-way.is, c.either.ensures)

pub returns-in-None-way : goal.returns-in-None-way
unfolding flowed join
returns-in-None-way c =
    simp (c.in-Some.is, c.in-None-way.is)

pub returns-in-None : goal.returns-in-None
unfolding flowed join
returns-in-None c =
    simp c.in-None.is
