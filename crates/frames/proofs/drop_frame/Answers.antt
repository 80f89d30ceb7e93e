use Rattle.frames.proofs.Dropping.{drop-begun, drop-covers, drop-done, drop-left, drop-one}
use native.Mathlib.Omega.{arith}
use Rattle.frames.proofs.drop_frame.Goals as goal

pub loop-counts-init : goal.loop-counts-init
loop-counts-init c =
    drop-begun _ _ _ _ c.requires.0 c.requires.1

pub release-requires : goal.release-requires
release-requires c =
    let inv = c.loop-counts.invariant in
    let l = drop-left _ _ _ _ c.requires.0 c.requires.1 _ _ inv c.loop-counts-test.true in
    (c.requires.0, l, drop-covers _ _ _ _ c.requires.0 c.requires.1 _ _ l inv, inv.long)

pub overflow_add-e : goal.overflow_add-e
overflow_add-e c =
    omega (
      arith,
      drop-left _ _ _ _ c.requires.0 c.requires.1 _ _
          c.loop-counts.invariant c.loop-counts-test.true,
    )

pub loop-counts-smaller : goal.loop-counts-smaller
loop-counts-smaller c =
    omega (
      arith,
      drop-left _ _ _ _ c.requires.0 c.requires.1 _ _
          c.loop-counts.invariant c.loop-counts-test.true,
    )

pub loop-counts-preserved : goal.loop-counts-preserved
loop-counts-preserved c =
    drop-one _ _ _ _ c.requires.0 c.requires.1 _ _ _
    (drop-left _ _ _ _ c.requires.0 c.requires.1 _ _ c.loop-counts.invariant
    c.loop-counts-test.true) c.loop-counts.invariant c.release.ensures

pub returns : goal.returns
returns c =
    drop-done _ _ _ _ c.requires.0 c.requires.1 _ _ c.loop-counts-test.false c.loop-counts.invariant
