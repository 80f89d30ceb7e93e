-- `program::question14::Ends::onward`: a shift goes one place on.
use Rattle.layout.specs.Bounds.{INSTRUCTIONS}
use Rattle.program.proofs.Ends.{ends-onward}
use Rattle.program.proofs.question14.Ends.onward.Goals as goal

pub returns : goal.returns
returns c = ends-onward INSTRUCTIONS _ c.args.self.kept
