-- `sets::below`: what is left of a mask after a shift by n is its registers from n on.
use Rattle.sets.proofs.Masks.{inhabited-past, inhabited-none}
use borrow.Author.Tests.{le-leb}
use mathlib.Core.Bool.{not, not-not}
use mathlib.Core.Path.{sym, ap, ◌∙◌}
use Rattle.sets.proofs.below.Goals as goal

pub returns-then-n-ge-WIDTH : goal.returns-then-n-ge-WIDTH
returns-then-n-ge-WIDTH c =
    rw (le-leb 16 c.args.n c.if-n-ge-WIDTH.true) (sym (ap not (inhabited-none _ 16 _ c.if-n-ge-WIDTH.true) ∙ not-not _))

pub returns-else-n-ge-WIDTH : goal.returns-else-n-ge-WIDTH
returns-else-n-ge-WIDTH c =
    sym (ap not (inhabited-past _ 16 _ c.ranges.a.fits) ∙ not-not _)
