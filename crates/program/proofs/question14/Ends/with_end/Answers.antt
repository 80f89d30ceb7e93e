-- `program::question14::Ends::with_end`: or with 1 shifted to a place sets the digit there.
use Rattle.program.proofs.Ends.{at_place, ends_set, ends-past}
use Rattle.program.specs.Skips.{PLACES}
use lib.Bits.{or_lt}
use lib.Pow.{pow-lt}
use Rattle.program.proofs.question14.Ends.with_end.Goals as goal

pub invariant_of-result : goal.invariant_of-result
invariant_of-result c = record { kept = rw (at_place c.if-n-ge-PLACES.false) (or_lt PLACES _ _ c.args.self.kept (pow-lt c.if-n-ge-PLACES.false)) }

pub returns-then-n-ge-PLACES : goal.returns-then-n-ge-PLACES
returns-then-n-ge-PLACES c = ends-past PLACES _ _ c.if-n-ge-PLACES.true

pub returns : goal.returns
returns c = rw (at_place c.if-n-ge-PLACES.false) (ends_set PLACES _ _)
