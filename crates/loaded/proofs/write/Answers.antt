-- `loaded::write`: byte by byte.
use mathlib.Core.Path.{ap, ◌∙◌}
use lib.ListN.{length}
use Rattle.loaded.proofs.Stores.{length-recorded}
use native.Mathlib.Omega.{arith}
use Rattle.loaded.proofs.Stores.{recorded-by}
use Rattle.loaded.proofs.write.Goals as goal

pub overflow_add-at-7 : goal.overflow_add-at-7
overflow_add-at-7 c = omega (
  arith,
  c.requires.1,
)

pub overflow_add-at-8 : goal.overflow_add-at-8
overflow_add-at-8 c = omega (
  arith,
  c.requires.1,
)

pub overflow_cast-p-2 : goal.overflow_cast-p-2
overflow_cast-p-2 c = omega (
  arith,
  c.requires.0,
)

pub returns : goal.returns
returns c =
    recorded-by c.args.image.now
    c.args.table.now
    c.args.i
    c.args.p
    c.byte.ensures
    c.byte-2.ensures
    c.byte-3.ensures
    c.byte-4.ensures c.byte-5.ensures
    c.byte-6.ensures
    c.put.ensures
    c.put-2.ensures
    c.put-3.ensures
    c.put-4.ensures
    c.put-5.ensures
    c.put-6.ensures c.put-7.ensures
    c.put-8.ensures

pub shape_of-table : goal.shape_of-table
shape_of-table c = ap length (returns c) ∙ length-recorded
    c.args.image.now
    c.args.table.now
    c.args.i
    c.args.p
