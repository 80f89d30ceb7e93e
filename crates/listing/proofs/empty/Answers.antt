use Rattle.listing.proofs.Opening.{empty-done, empty-kept, empty-one, empty-short}
use Rattle.acts.proofs.Answers.{live-still}
use mathlib.Core.Path.{refl}
use native.Mathlib.Omega.{arith}
use Rattle.listing.proofs.empty.Goals as goal

pub loop-m-init : goal.loop-m-init
loop-m-init c =
    record { state = refl; ready = c.requires.0; live = c.requires.1 }

pub returns-then-rs-i : goal.returns-then-rs-i
returns-then-rs-i c =
    (empty-short _ _ _ _ _ _ _ _ _ c.loop-m.invariant c.if-rs-i.true, c.loop-m.invariant.ready)

pub assign_empty-requires : goal.assign_empty-requires
assign_empty-requires c =
    (c.loop-m.invariant.ready, c.loop-m.invariant.live)

pub loop-m-smaller-then-m-eq1 : goal.loop-m-smaller-then-m-eq1
loop-m-smaller-then-m-eq1 c =
    omega (arith, c.loop-m-test.true)

pub loop-m-preserved-then-m-eq1 : goal.loop-m-preserved-then-m-eq1
loop-m-preserved-then-m-eq1 c =
    let L = live-still _ _ _ _ _ _ _ _ c.loop-m.invariant.live
    (c.requires.2 _ c.if-rs-i.false) c.assign_empty.ensures.0 in
    empty-one _ _ _ _ _ _ _ _ _ c.loop-m.invariant c.if-rs-i.false _ _ _
    c.if-m-eq1.true c.requires.2 c.assign_empty.ensures.0
    c.assign_empty.ensures.1 L

pub loop-m-smaller : goal.loop-m-smaller
loop-m-smaller c =
    omega (arith, c.loop-m-test.true)

pub loop-m-preserved : goal.loop-m-preserved
loop-m-preserved c =
    empty-kept _ _ _ _ _ _ _ _ _ c.loop-m.invariant c.if-rs-i.false c.if-m-eq1.false

pub returns : goal.returns
returns c =
    (empty-done _ _ _ _ _ _ _ _ _ c.loop-m.invariant c.loop-m-test.false, c.loop-m.invariant.ready)
