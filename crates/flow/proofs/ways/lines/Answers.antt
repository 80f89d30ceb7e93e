use Prim.Native.Nat.{◌-◌}
use Rattle.program.proofs.Views.{is-lined}
use Rattle.layout.proofs.Walk.{size_in}
use Rattle.flow.proofs.Blocks.{line-more, line-last, line-full}
use borrow.Author.Tests.{not-true, not-false}
use mathlib.Core.Path.{◌≡◌, refl, sym, ◌∙◌}
use native.Mathlib.Omega.{arith}
use Rattle.flow.proofs.ways.lines.Goals as goal

pub loop-n-init : goal.loop-n-init
loop-n-init c =
    (omega arith, omega arith)

pub returns-then-not-is_line : goal.returns-then-not-is_line
returns-then-not-is_line c =
    let z = line-last _ _ (48 - c.loop-n.n) (sym c.is_line.ensures ∙ c.if-not-is_line.true) in (omega (arith, z, c.loop-n.invariant.0), c.loop-n.invariant.1)

pub overflow_add-p : goal.overflow_add-p
overflow_add-p c =
    let l = is-lined _ _ (sym c.is_line.ensures ∙ c.if-not-is_line.false) in omega (arith, c.size_at-p.ensures, size_in _ _ refl l.whole)

pub loop-n-preserved : goal.loop-n-preserved
loop-n-preserved c =
    rw c.size_at-p.ensures (let z = line-more _ _ _ (sym c.is_line.ensures ∙ c.if-not-is_line.false) c.loop-n-test.true in (omega (arith, z, c.loop-n.invariant.0), omega (arith, c.loop-n-test.true)))

pub returns : goal.returns
returns c =
    let full : c.loop-n.n ≡ 48 = omega (arith, c.loop-n-test.false, c.loop-n.invariant.1) in
    (sym full ∙ line-full _ _ _ c.loop-n.invariant.0 (omega (arith, c.loop-n-test.false)), omega arith)
