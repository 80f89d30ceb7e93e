-- `loaded::lookup::mark`: that of block 0.
use mathlib.Core.Path.{sym, ap, ◌∙◌}
use Rattle.loaded.specs.Answers.{block_of}
use Rattle.loaded.proofs.Lookups.{marked, unmarked}
use Rattle.loaded.proofs.lookup.mark.Goals as goal

pub returns-in_default : goal.returns-in_default
returns-in_default c = unmarked c.args.image.now c.args.table.now
    c.args.k (ap (block_of c.args.image.now
    c.args.table.now) (sym c.in_default.is) ∙ c.block.ensures)

pub returns : goal.returns
returns c = c.mark_at.ensures.0 c.args.image.now ∙ marked
    c.args.image.now c.args.table.now
    c.args.k _
    (ap (block_of c.args.image.now c.args.table.now)
    (sym c.in-Some.is) ∙ c.block.ensures)
