use Rattle.matching.proofs.Looking.{count-begun, count-missing, count_past, count-here, count-done, passes-here, passes-past, searched-is}
use native.Mathlib.Omega.{arith}
use mathlib.Core.Path.{sym, ◌∙◌}
use Rattle.matching.proofs.searched.Goals as goal

pub loop-w-init : goal.loop-w-init
loop-w-init c =
    count-begun _ _ _ _

pub overflow_add-result : goal.overflow_add-result
overflow_add-result c =
    let f = c.loop-w.invariant.few in omega
    (arith, f, c.loop-w-test.true)

pub returns-then-is_some : goal.returns-then-is_some
returns-then-is_some c =
    count-here _ _ _ _ _ _ c.loop-w.invariant c.loop-w-test.true _
    (c.version.ensures _) c.in-Some.is
    (passes-here _ _ _ _ _ _ _ c.passes.ensures (sym c.if-is_some.ensures)) ∙ searched-is _ _ _ _ _
    c.byte-f.ensures

pub overflow_add-c : goal.overflow_add-c
overflow_add-c c =
    let f = c.loop-w.invariant.few in omega
    (arith, f, c.loop-w-test.true)

pub loop-w-preserved : goal.loop-w-preserved
loop-w-preserved c =
    count_past _ _ _ _ _ _ c.loop-w.invariant c.loop-w-test.true _
    (c.version.ensures _) c.in-Some.is
    (passes-past _ _ _ _ _ _ _ c.passes.ensures (sym c.if-is_some.ensures))

pub loop-w-preserved-in_default : goal.loop-w-preserved-in_default
loop-w-preserved-in_default c =
    count-missing _ _ _ _ _ _ c.loop-w.invariant c.loop-w-test.true _ (c.version.ensures _)
    c.in_default.is

pub returns : goal.returns
returns c =
    count-done _ _ _ _ _ _ c.loop-w.invariant c.loop-w-test.false ∙ searched-is _ _ _ _ _ c.byte-f.ensures
