use native.Mathlib.Omega.{arith}
use Rattle.begin.proofs.Stores.{copied_none, copied-one, copied_all, items-out, length-put, length-out}
use borrow.Author.Rules.{rules}
use Rattle.begin.proofs.put_items.Goals as goal

pub returns-then-c-ge-VECTORS : goal.returns-then-c-ge-VECTORS
returns-then-c-ge-VECTORS c =
    (length-out _ _ _ c.if-c-ge-VECTORS.true, items-out _ _ _ c.if-c-ge-VECTORS.true)

pub loop-j-init : goal.loop-j-init
loop-j-init c =
    (omega arith, copied_none _ _ _ _ c.requires.1 c.requires.0 _ c.if-c-ge-VECTORS.false)

pub loop-j-preserved : goal.loop-j-preserved
loop-j-preserved c =
    (omega arith, copied-one _ _ _ _ c.requires.1 c.requires.0 _ _ _ (search rules) c.loop-j-test.true c.loop-j.invariant.1)

pub returns : goal.returns
returns c =
    (length-put _ _ _ c.if-c-ge-VECTORS.false, copied_all _ _ _ _ c.requires.1 c.requires.0 _ _ _ c.loop-j-test.false c.loop-j.invariant.1)
