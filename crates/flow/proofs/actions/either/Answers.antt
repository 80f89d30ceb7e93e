use Rattle.rules.specs.Actions.{either}
use Rattle.flow.proofs.actions.either.Goals as goal

pub returns : goal.returns
unfolding either
returns c =
    simp (c.union.ensures, c.intersection.ensures, c.union-2.ensures, c.union-3.ensures)
