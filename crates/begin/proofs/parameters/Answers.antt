-- `begin::parameters`: the smaller of both counts.
use Rattle.loaded.specs.Loaded.{version_in}
use Rattle.begin.proofs.Filling.{few-stated, many-stated}
use borrow.Author.Rules.{rules}
use Rattle.begin.proofs.parameters.Goals as goal

pub returns-then-stated-declared : goal.returns-then-stated-declared
returns-then-stated-declared c =
    (few-stated (version_in c.args.image.now c.args.table.now c.args.k) c.parameters-stated.ensures c.registers-declared.ensures c.if-stated-declared.true, search rules)

pub returns-else-stated-declared : goal.returns-else-stated-declared
returns-else-stated-declared c =
    (many-stated (version_in c.args.image.now c.args.table.now c.args.k) c.parameters-stated.ensures c.registers-declared.ensures c.if-stated-declared.false, search rules)
