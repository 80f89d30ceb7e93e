use mathlib.Core.Path.{refl}
use native.Mathlib.Omega.{arith}
use borrow.Author.Rules.{rules}
use lib.ListN.{length-set}
use Rattle.abi.proofs.Delivering.{over_none, there-next, there-enough, there-full, there-all}
use Rattle.abi.proofs.parts.put_items.Goals as goal

pub loop-j-init : goal.loop-j-init
loop-j-init c =
    (omega arith, omega arith, over_none _, refl)

pub shape_of-buffer-then-n-j : goal.shape_of-buffer-then-n-j
shape_of-buffer-then-n-j c =
    c.loop-j.invariant.3

pub returns-then-n-j : goal.returns-then-n-j
returns-then-n-j c =
    there-enough _ _ _ _ c.loop-j.invariant.2 _ c.loop-j.invariant.0 (omega arith)

pub shape_of-buffer-then-buffer-j : goal.shape_of-buffer-then-buffer-j
shape_of-buffer-then-buffer-j c =
    c.loop-j.invariant.3

pub returns-then-buffer-j : goal.returns-then-buffer-j
returns-then-buffer-j c =
    there-full _ _ _ _ c.loop-j.invariant.2 _ c.loop-j.invariant.0 (omega (arith, c.loop-j.invariant.3))

pub loop-j-preserved : goal.loop-j-preserved
loop-j-preserved c =
    (omega arith, omega arith, there-next _ _ _ _ c.loop-j.invariant.2 (search rules) (search rules), rw length-set c.loop-j.invariant.3)

pub shape_of-buffer : goal.shape_of-buffer
shape_of-buffer c =
    c.loop-j.invariant.3

pub returns : goal.returns
returns c =
    there-all _ _ _ _ c.loop-j.invariant.2 _ c.loop-j.invariant.0 (search rules)
