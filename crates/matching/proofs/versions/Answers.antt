use Rattle.matching.proofs.Looking.{count-begun, count-none, count-each, count-done, versions-is}
use native.Mathlib.Omega.{arith}
use mathlib.Core.Path.{refl, sym, ◌∙◌}
use Rattle.matching.proofs.versions.Goals.{then-is_some, else-is_some}
use Rattle.matching.proofs.versions.Goals as goal

pub loop-w-init : goal.loop-w-init
loop-w-init c =
    count-begun _ _ _ _

pub overflow_add-c : goal.overflow_add-c
overflow_add-c c =
    let f = c.loop-w.invariant.few in omega (arith, f, c.loop-w-test.true)

pub loop-w-preserved : goal.loop-w-preserved
loop-w-preserved c =
    elim c.if-is_some.branch [
      | then-is_some w ↦ count-each _ _ _ _ _ _ c.loop-w.invariant c.loop-w-test.true _ (c.version.ensures _) (λ W. refl) (sym w.if-is_some.ensures) w.c-is
      | else-is_some w ↦ count-none _ _ _ _ _ _ c.loop-w.invariant c.loop-w-test.true _ (c.version.ensures _) (sym w.if-is_some.ensures) w.c-is
    ]

pub returns : goal.returns
returns c =
    count-done _ _ _ _ _ _ c.loop-w.invariant c.loop-w-test.false ∙ versions-is _ _ _
