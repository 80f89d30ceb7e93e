use Rattle.matching.proofs.Gathering.{list-begun, list_on, list_done}
use native.Mathlib.Omega.{arith}
use Rattle.matching.proofs.listed.Goals as goal

pub loop-i-init : goal.loop-i-init
loop-i-init c =
    list-begun _ _ _ _ _ c.requires.2 c.requires.3

pub bounds-rs-i : goal.bounds-rs-i
bounds-rs-i c =
    let m = c.loop-i.invariant.most in omega (arith, m, c.loop-i-test.true)

pub overflow_add-p : goal.overflow_add-p
overflow_add-p c =
    let m = c.loop-i.invariant.near in let k = c.loop-i.invariant.few in let l = c.loop-i.invariant.most in omega
    (arith, m, k, l, c.requires.0, c.requires.1)

pub loop-i-preserved : goal.loop-i-preserved
loop-i-preserved c =
    list_on _ _ _ _ _ _ _ c.loop-i.invariant c.requires.1 c.loop-i-test.true c.byte.ensures

pub returns : goal.returns
returns c =
    list_done _ _ _ _ _ _ _ c.loop-i.invariant c.loop-i-test.false
