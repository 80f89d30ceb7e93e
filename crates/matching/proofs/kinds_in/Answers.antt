use Rattle.matching.proofs.Gathering.{decode-begun, decode-on, decode-done}
use native.Mathlib.Omega.{arith}
use mathlib.Core.Path.{refl}
use Rattle.matching.proofs.kinds_in.Goals as goal

pub loop-i-init : goal.loop-i-init
loop-i-init c =
    decode-begun _ _ _ refl (omega arith)

pub overflow_add-kinds : goal.overflow_add-kinds
overflow_add-kinds c =
    omega arith

pub bounds-kinds-i : goal.bounds-kinds-i
bounds-kinds-i c =
    omega (arith, c.loop-i-test.true, c.requires)

pub loop-i-preserved : goal.loop-i-preserved
loop-i-preserved c =
    decode-on _ _ _ _ _ c.loop-i.invariant c.requires c.loop-i-test.true refl

pub returns : goal.returns
returns c =
    decode-done _ _ _ _ _ c.loop-i.invariant c.requires c.loop-i-test.false
