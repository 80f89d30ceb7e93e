use Rattle.listing.proofs.Opening.{pass-begun, pass-done, pass-full, pass-live, pass_on}
use native.Mathlib.Omega.{arith}
use Rattle.listing.proofs.pass.Goals as goal

pub loop-i-init : goal.loop-i-init
loop-i-init c =
    pass-begun _ _ _ _ _ _ c.requires.2 c.requires.0

pub returns-then-rs-i : goal.returns-then-rs-i
returns-then-rs-i c =
    (pass-done _ _ _ _ _ _ _ _ _ c.loop-i.invariant c.requires.2 c.if-rs-i.true, c.loop-i.invariant.ready)

pub assign_cell-requires : goal.assign_cell-requires
assign_cell-requires c = (
  c.loop-i.invariant.ready,
  pass-live _ _ _ _ _ _ _ _ _ c.loop-i.invariant
      c.requires.2,
  omega (
    arith,
    c.requires.1,
    c.requires.2.0,
  ),
  omega (
    arith,
    c.requires.3 _ c.if-rs-i.false,
    c.wide-e.ensures.0,
  ),
)

pub loop-i-preserved : goal.loop-i-preserved
loop-i-preserved c =
    pass_on _ _ _ _ _ _ _ _ _ c.loop-i.invariant
    c.requires.2 c.if-rs-i.false
    c.loop-i-test.true c.requires.1
    c.requires.3 _ _ _ _ c.wide-e.ensures.0
    c.assign_cell.ensures.0 c.assign_cell.ensures.1

pub returns : goal.returns
returns c =
    (pass-full _ _ _ _ _ _ _ _ _ c.loop-i.invariant c.requires.2 c.loop-i-test.false, c.loop-i.invariant.ready)
