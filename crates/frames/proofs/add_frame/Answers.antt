use Rattle.frames.proofs.Tallying.{add-begun, add-cell, add_done, add-few}
use Rattle.frames.proofs.add_frame.Goals as goal

pub loop-e-init : goal.loop-e-init
loop-e-init c =
    add-begun _ _ _ _ c.requires.0 c.requires.1 c.requires.2

pub retain-requires : goal.retain-requires
retain-requires c =
    let inv = c.loop-e.invariant in (
      c.requires.0,
      c.loop-e-test.true,
      add-few _ _ _ _ c.requires.0 c.requires.1 _ _
          c.loop-e-test.true inv,
      inv.long,
    )

pub loop-e-preserved : goal.loop-e-preserved
loop-e-preserved c =
    add-cell _ _ _ _ c.requires.0 c.requires.1 _ _ _ c.loop-e-test.true
    c.loop-e.invariant c.retain.ensures

pub returns : goal.returns
returns c =
    add_done _ _ _ _ c.requires.0 c.requires.1 _ _ c.loop-e-test.false c.loop-e.invariant
