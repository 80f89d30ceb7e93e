use Rattle.listing.proofs.Gathering.{gather-begun, gather-done, gather-next, gather-ends}
use Rattle.listing.proofs.all_integers.Goals as goal

pub loop-r-init : goal.loop-r-init
loop-r-init c =
    gather-begun _ _ _ _

pub loop-r-preserved : goal.loop-r-preserved
loop-r-preserved c =
    gather-next _ _ _ _ _ c.loop-r.invariant c.loop-r-test.true _ c.integer.ensures c.if-is_none.ensures

pub returns-then-is_none : goal.returns-then-is_none
returns-then-is_none c =
    gather-ends _ _ _ _ _ c.loop-r.invariant c.loop-r-test.true _ c.integer.ensures c.if-is_none.ensures

pub returns : goal.returns
returns c =
    gather-done _ _ _ _ _ c.loop-r.invariant c.loop-r-test.false
