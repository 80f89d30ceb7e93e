-- `flow::instructions::promised`: by whether the block's own action is allowed.
use Rattle.rules.specs.Actions.{promised}
use Rattle.flow.specs.Masks.{flowed}
use Rattle.flow.proofs.instructions.promised.Goals as goal

pub returns-in-Some : goal.returns-in-Some
unfolding flowed promised
returns-in-Some c =
    simp (c.in-Some.is, c.union.ensures, c.union-in-Some.ensures, c.union-in-Some-2.ensures)

pub returns-in-None : goal.returns-in-None
unfolding flowed promised
returns-in-None c =
    simp c.in-None.is
