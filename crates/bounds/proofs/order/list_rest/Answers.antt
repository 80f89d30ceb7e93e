use Rattle.bounds.proofs.Writing.{rest-begins, rest-room, rest-next, rest-past, rest-done}
use mathlib.Core.Path.{sym, ◌∙◌}
use native.Mathlib.Omega.{arith}
use Rattle.bounds.proofs.order.list_rest.Goals as goal

pub loop-k-init : goal.loop-k-init
loop-k-init c =
    rest-begins _ _ _ _ _

pub put_row-requires : goal.put_row-requires
put_row-requires c =
    (rest-room _ _ _ _ _ _ _ _ _ c.loop-k.invariant c.loop-k-test.true (sym c.is_open.ensures ∙ c.if-not-is_open.false) c.requires, c.loop-k-test.true)

pub overflow_add-row : goal.overflow_add-row
overflow_add-row c =
    omega (arith, rest-room _ _ _ _ _ _ _ _ _ c.loop-k.invariant c.loop-k-test.true (sym c.is_open.ensures ∙ c.if-not-is_open.false) c.requires)

pub loop-k-preserved : goal.loop-k-preserved
loop-k-preserved c =
    rest-next _ _ _ _ _ _ _ _ _ c.loop-k.invariant c.loop-k-test.true (sym c.is_open.ensures ∙ c.if-not-is_open.false) c.put_row.ensures

pub loop-k-preserved-then-not-is_open : goal.loop-k-preserved-then-not-is_open
loop-k-preserved-then-not-is_open c =
    rest-past _ _ _ _ _ _ _ _ _ c.loop-k.invariant c.loop-k-test.true (sym c.is_open.ensures ∙ c.if-not-is_open.true)

pub returns : goal.returns
returns c =
    rest-done _ _ _ _ _ _ _ _ _ c.loop-k.invariant c.loop-k-test.false
