use native.Mathlib.Omega.{arith}
use Rattle.frames.proofs.Tallying.{tally-calm, tally-done, tally-force}
use Rattle.frames.proofs.tally.Goals as goal

pub add_frames-requires : goal.add_frames-requires
add_frames-requires c =
    c.requires.0

pub loop-i-init : goal.loop-i-init
loop-i-init c =
    c.add_frames.ensures

pub activation-a-requires : goal.activation-a-requires
activation-a-requires c =
    omega (arith, c.loop-i-test.true, c.few-depth.ensures.1)

pub pend-requires : goal.pend-requires
pend-requires c =
    tally-calm _ _ _ _ _ c.loop-i.invariant

pub loop-i-preserved : goal.loop-i-preserved
loop-i-preserved c =
    tally-force _ _ _ _ _ c.loop-i.invariant _
    (omega (arith, c.loop-i-test.true, c.few-depth.ensures.1)) c.activation-a.ensures
    c.pend.ensures

pub returns : goal.returns
returns c =
    tally-done _ _ _ c.requires.1 c.few-depth.ensures.0 c.loop-i.invariant c.loop-i.auto.i-end c.loop-i-test.false
