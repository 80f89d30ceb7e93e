-- `loaded::lookup::type_of`: the types stand behind the sixth field.
use Rattle.loaded.proofs.Lookups.{type-inside, type-outside}
use Rattle.loaded.proofs.lookup.type_of.Goals as goal

pub returns-then-r-byte : goal.returns-then-r-byte
returns-then-r-byte c = type-inside c.args.image.now c.args.table.now
    c.args.k c.args.r c.head-e.ensures.0
    c.byte.ensures c.if-r-byte.true c.byte-then-r-byte.ensures

pub returns-else-r-byte : goal.returns-else-r-byte
returns-else-r-byte c = type-outside c.args.image.now c.args.table.now
    c.args.k c.args.r c.head-e.ensures.0 c.byte.ensures c.if-r-byte.false
