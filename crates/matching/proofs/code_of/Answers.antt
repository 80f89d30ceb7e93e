use Rattle.matching.proofs.Gathering.{code-begun, code-on, code-room, code-none, code-done}
use native.Mathlib.Omega.{arith}
use Rattle.matching.proofs.code_of.Goals as goal

pub loop-i-init : goal.loop-i-init
loop-i-init c =
    code-begun _ _ _ _ _ _

pub bounds-rs-i : goal.bounds-rs-i
bounds-rs-i c =
    let f = c.loop-i.invariant.few in omega (arith, f, c.loop-i-test.true, c.requires.1)

pub returns-then-m-eq0 : goal.returns-then-m-eq0
returns-then-m-eq0 c = (
  code-none _ _ _ _ _ _ _ _ c.loop-i.invariant c.loop-i-test.true _
      c.requires.2 c.register_kind-m.ensures.0 c.if-m-eq0.true,
  omega arith,
)

pub overflow_mul-code : goal.overflow_mul-code
overflow_mul-code c =
    let r = code-room _ _ _ _ _ _ _ _ c.loop-i.invariant c.loop-i-test.true
    c.requires.1 in omega (arith, r)

pub overflow_sub-code : goal.overflow_sub-code
overflow_sub-code c =
    let z = c.if-m-eq0.false in let a = c.register_kind-m.ensures.1.0 in omega arith

pub overflow_add-code : goal.overflow_add-code
overflow_add-code c =
    let r = code-room _ _ _ _ _ _ _ _ c.loop-i.invariant c.loop-i-test.true
    c.requires.1 in let b = c.register_kind-m.ensures.1.1 in omega (arith, r, b)

pub loop-i-smaller : goal.loop-i-smaller
loop-i-smaller c =
    omega (arith, c.loop-i-test.true)

pub loop-i-preserved : goal.loop-i-preserved
loop-i-preserved c =
    code-on _ _ _ _ _ _ _ _ c.loop-i.invariant c.loop-i-test.true _ c.register_kind-m.ensures.0 c.if-m-eq0.false
    c.register_kind-m.ensures.1

pub returns : goal.returns
returns c =
    code-done _ _ _ _ _ _ _ _ c.loop-i.invariant (omega (arith, c.loop-i-test.false)) c.requires.1 c.requires.2
