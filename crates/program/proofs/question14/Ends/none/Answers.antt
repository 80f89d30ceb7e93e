-- `program::question14::Ends::none`: no digit of 0 is 1.
use Rattle.program.specs.Skips.{PLACES}
use Rattle.program.proofs.Ends.{ends-none}
use Rattle.program.proofs.question14.Ends.none.Goals as goal

pub returns : goal.returns
returns c = ends-none PLACES
