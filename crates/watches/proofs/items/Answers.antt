use mathlib.Core.Path.{◌∙◌}
use native.Mathlib.Omega.{arith}
use borrow.Author.Rules.{rules}
use Rattle.machine.specs.States.{items_of}
use Rattle.store.specs.Store.{vector_in}
use Rattle.watches.proofs.Records.{none-laid, next-laid, all_laid}
use Rattle.watches.proofs.items.Goals as goal

pub loop-j-init : goal.loop-j-init
loop-j-init c =
    (omega arith, none-laid (items_of (vector_in c.args.bytes.now c.args.numbers.now c.args.v)))

pub item-requires : goal.item-requires
item-requires c =
    (search rules, omega (arith, c.loop-j-test.true, c.wide-n.ensures.0, c.items.ensures.0))

pub bounds-items-j : goal.bounds-items-j
bounds-items-j c =
    omega (arith, c.loop-j-test.true, c.wide-n.ensures.0, c.items.ensures.1)

pub loop-j-preserved : goal.loop-j-preserved
loop-j-preserved c =
    (omega (arith, c.loop-j-test.true), next-laid _ _ _ c.loop-j.invariant.1 (omega (arith, c.loop-j-test.true, c.wide-n.ensures.0, c.items.ensures.0)) (search rules) c.item.ensures)

pub returns : goal.returns
returns c =
    all_laid (items_of (vector_in c.args.bytes.now c.args.numbers.now c.args.v)) _ _ _ c.loop-j.invariant.1 c.loop-j.invariant.0 c.loop-j-test.false (c.wide-n.ensures.0 ∙ c.items.ensures.0)
