use Rattle.layout.specs.Records.{◌!◌}
use Rattle.store.specs.Store.{CALLS}
use Prim.Native.Nat.{◌<◌}
use native.Mathlib.Omega.{arith}
use Rattle.frames.proofs.Tallying.{tally-all, tally-begun, tally-frame, tally-room}
use Rattle.frames.proofs.add_frames.Goals as goal

pub loop-k-init : goal.loop-k-init
loop-k-init c =
    tally-begun _ _ _ c.requires

pub add_frame-requires : goal.add_frame-requires
add_frame-requires c =
    let T = c.loop-k.invariant in
    let h : c.loop-k.k < 32 = omega (arith, c.loop-k-test.true, c.few-calls.ensures.1) in
    (h, tally-room _ _ _ _ h T, T.long)

pub loop-k-preserved : goal.loop-k-preserved
loop-k-preserved c =
    tally-frame _ _ _ _ _ (omega (arith, c.loop-k-test.true, c.few-calls.ensures.1)) c.loop-k.invariant
    c.add_frame.ensures

pub returns : goal.returns
returns c =
    tally-all _ _ _ (c.args.bytes.now ! CALLS) c.few-calls.ensures.0 c.loop-k.invariant c.loop-k.auto.k-end
    c.loop-k-test.false
