-- `loaded::lookup::block`: the record of the block, where the version has one.
use Rattle.loaded.proofs.Lookups.{found-block, missing-block}
use Rattle.loaded.proofs.lookup.block.Goals as goal

pub returns-then-b-blocks : goal.returns-then-b-blocks
returns-then-b-blocks c = found-block c.args.image.now c.args.table.now
    c.args.k c.args.b c.blocks-2.ensures c.if-b-blocks.true
    c.entry.ensures

pub returns-else-b-blocks : goal.returns-else-b-blocks
returns-else-b-blocks c = missing-block c.args.image.now c.args.table.now c.args.k
    c.args.b c.blocks-2.ensures c.if-b-blocks.false
