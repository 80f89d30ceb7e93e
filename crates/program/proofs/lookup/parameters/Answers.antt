-- `program::lookup::parameters`: the third field of a VERSION.
use Rattle.program.specs.Places.{version_at}
use Rattle.program.proofs.lookup.parameters.Goals as goal

pub returns : goal.returns
unfolding version_at
returns c =
    c.field.ensures
