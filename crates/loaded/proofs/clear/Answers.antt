use mathlib.Core.Path.{refl, ap, ◌∙◌}
use native.Mathlib.Omega.{arith}
use lib.ListN.{length, length-set}
use Rattle.loaded.proofs.Entries.{cleared}
use Rattle.loaded.proofs.clear.Goals as goal

pub loop-k-init : goal.loop-k-init
loop-k-init c = (refl, λ j l. absurd (omega arith))

pub loop-k-preserved : goal.loop-k-preserved
loop-k-preserved c =
    let inv = c.loop-k.invariant in
    let e = c.put.ensures in
    (ap length e ∙ simp length-set inv.0, rw e (cleared c.loop-k.table c.loop-k.k inv.1))

pub shape_of-table : goal.shape_of-table
shape_of-table c = c.loop-k.invariant.0

pub returns : goal.returns
returns c = (c.loop-k.invariant.0, λ k l. c.loop-k.invariant.1 k (omega (arith, c.loop-k-test.false)))
