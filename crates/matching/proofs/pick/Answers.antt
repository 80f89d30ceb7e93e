use Rattle.matching.proofs.Picking.{left-all, left-missing, left-past, left_here, left-none, first_of}
use Rattle.matching.proofs.pick.Goals as goal

pub loop-w-init : goal.loop-w-init
loop-w-init c =
    left-all _ _ _ _ _

pub returns-in-Some-passes : goal.returns-in-Some-passes
returns-in-Some-passes c =
    left_here _ _ _ _ _ _ c.loop-w.invariant
    c.loop-w-test.true
    c.byte-f.ensures _
    (c.version.ensures _) c.in-Some.is _
    c.passes.ensures _ _ (first_of _ _
    c.requires.1) c.in-Some-passes.is

pub loop-w-preserved : goal.loop-w-preserved
loop-w-preserved c =
    left-past _ _ _ _ _ _ c.loop-w.invariant c.loop-w-test.true
    c.byte-f.ensures _ (c.version.ensures _)
    c.in-Some.is _ c.passes.ensures c.in_default-passes.is

pub loop-w-preserved-in_default : goal.loop-w-preserved-in_default
loop-w-preserved-in_default c =
    left-missing _ _ _ _ _ _ c.loop-w.invariant c.loop-w-test.true c.byte-f.ensures _
    (c.version.ensures _) c.in_default.is

pub returns : goal.returns
returns c =
    left-none _ _ _ _ _ _ _ c.loop-w.invariant c.loop-w-test.false
