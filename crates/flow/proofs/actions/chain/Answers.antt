-- `flow::actions::chain`: what is refused stays refused.
use Rattle.rules.specs.Actions.{◌then◌}
use Rattle.flow.specs.Masks.{flowed}
use Rattle.flow.proofs.actions.chain.Goals as goal

pub returns-in-Some-next : goal.returns-in-Some-next
unfolding flowed
returns-in-Some-next c =
    simp (c.in-Some.is, c.in-Some-next.is) c.follow.ensures

pub returns-in-None-next : goal.returns-in-None-next
unfolding flowed ◌then◌
returns-in-None-next c =
    simp (c.in-Some.is, c.in-None-next.is)

pub returns-in-None : goal.returns-in-None
unfolding flowed ◌then◌
returns-in-None c =
    simp c.in-None.is
